-- The cut of the line just put in gives the lines back: the line after it hangs on one before it, so that line alone is cut.
--     cut-undoes      in either version
-- Assumes nothing.
use Prim.Native.Nat.{ℕ, ◌+◌, ◌-◌, ◌≤◌, ◌<◌}
use native.Mathlib.Omega.{arith}
use native.Mathlib.Decide.{dec_lt}
use mathlib.Core.Path.{◌≡◌, refl, sym, ap, ◌∙◌}
use mathlib.Core.List.{List, [], ◌∷◌, ◌++◌, map}
use lib.ListN.{length, take, drop, take-append-drop, length-map}
use lib.Seq.{length-take-le, take_at, drop_at, drop-drop}
use Rattle.jkf.specs.Model.{Line}
use Rattle.jkf.specs.Attaching.{Play}
use Rattle.jkf.specs.Trees.{reach}
use Rattle.jkf.proofs.Reaching.{Reaches}
use Rattle.edit.specs.Edit.{plays_in, place_of, reparented, renumbered, lines_with, line_on, removed_from, lowered, without_lines}
use Rattle.edit.proofs.Renumbering.{renumbered-low, renumbered-high, lowered-low, lowered-high}
use Rattle.edit.proofs.Listing.{parents_in, as_branched, put-long, put-parent, reaches}
use Rattle.edit.proofs.Inserted.{PutsIn, at, later, put-length, put-sound}
use Rattle.edit.proofs.Removed.{CutsOut, runs_agree}

lowered_back : (n i : ℕ) → lowered n 1 (renumbered n i) ≡ i
lowered_back n i = go (dec_lt i n)
  where
    go : Dec (i < n) → lowered n 1 (renumbered n i) ≡ i
    go (yes h) = ap (lowered n 1) (renumbered-low n i h) ∙ lowered-low n 1 i h
    go (no h) =
        let e : i + 1 - 1 ≡ i = omega arith in
        ap (lowered n 1) (renumbered-high n i (omega arith)) ∙ lowered-high n 1 (i + 1) (omega arith) ∙ e

reparented_back : (n : ℕ) (ls : List Line) → map (reparented (lowered n 1)) (map (reparented (renumbered n)) ls) ≡ ls
reparented_back n [] = refl
reparented_back n (l ∷ ls) =
    ap (λ (p : ℕ). record { start = l.start; parent = p; entries = l.entries } ∷ map (reparented (lowered n 1)) (map (reparented (renumbered n)) ls)) (lowered_back n l.parent)
    ∙ ap (λ (qs : List Line). l ∷ qs) (reparented_back n ls)

put_without : (ls : List Line) (n : ℕ) (l : Line) → n ≤ length ls → without_lines n 1 (lines_with n l ls) ≡ ls
put_without ls n l fits = ap (map (reparented (lowered n 1))) parts ∙ reparented_back n ls
  where
    qs : List Line
    qs = map (reparented (renumbered n)) ls

    long : length (take n qs) ≡ n
    long = length-take-le n qs (omega (arith, length-map ls (reparented (renumbered n))))

    front : take n (take n qs ++ (l ∷ drop n qs)) ≡ take n qs
    front = take_at (take n qs) (l ∷ drop n qs) n long

    rest : drop (n + 1) (take n qs ++ (l ∷ drop n qs)) ≡ drop n qs
    rest = sym (drop-drop 1 n (take n qs ++ (l ∷ drop n qs))) ∙ ap (drop 1) (drop_at (take n qs) (l ∷ drop n qs) n long)

    parts : take n (take n qs ++ (l ∷ drop n qs)) ++ drop (n + 1) (take n qs ++ (l ∷ drop n qs)) ≡ qs
    parts =
        ap (λ (x : List Line). x ++ drop (n + 1) (take n qs ++ (l ∷ drop n qs))) front ∙ ap (λ (x : List Line). take n qs ++ x) rest ∙ take-append-drop n qs

-- the line after a new line hangs before it
alone : (ls : List Line) (n : ℕ) (l : Line) → 0 < n → n ≤ length ls → (n < length ls → parents_in ls n < n) → reach (lines_with n l ls) n ≡ 1
alone ls n l z fits low = go (dec_lt 1 (reach ls' n))
  where
    ls' : List Line
    ls' = lines_with n l ls

    long : length ls' ≡ length ls + 1
    long = put-long ls n l z fits

    run : Reaches (parents_in ls') (length ls') n (reach ls' n)
    run = reaches ls' n (omega (arith, long))

    go : Dec (1 < reach ls' n) → reach ls' n ≡ 1
    go (no h) = omega (arith, run.some)
    go (yes h) =
        let b : n < length ls = omega (arith, run.within, long) in
        absurd
        (omega (arith, run.each (n + 1) (omega arith) (omega arith), (put-parent ls n l z fits).after n (omega arith), low b, renumbered-low n (parents_in ls n) (low b)))

pub cut_undoes : (version : ℕ) (ls : List Line) (k : ℕ) (v : Play) → PutsIn version ls k v.start
    → (removed_from version (lines_with (place_of (plays_in ls) k v.start) (line_on k v) ls) (place_of (plays_in ls) k v.start) ≡ 1)
    × (without_lines (place_of (plays_in ls) k v.start) 1 (lines_with (place_of (plays_in ls) k v.start) (line_on k v) ls) ≡ ls)
cut_undoes version ls k v ok =
    let n = place_of (plays_in ls) k v.start in
    let ls' = lines_with n (line_on k v) ls in
    let a = at version ls k v ok in
    let z = later version ls k v ok in
    let g = as_branched version ls (omega (arith, ok.line)) ok.lines in
    let cuts : CutsOut version ls' n = record { lines = put-sound version ls k v ok; later = z; line = omega (arith, put-length version ls k v ok, a.fits) } in (
      runs_agree version ls' n cuts ∙ alone ls n (line_on k v) z a.fits (λ l. (g.each n z l).before),
      put_without ls n (line_on k v) a.fits,
    )
