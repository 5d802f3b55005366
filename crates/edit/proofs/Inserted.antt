-- A variation put into lines that hang as a version asks, at its place on a line that has its ply; in version 1 on a free entry.
--     PutsIn                     what is asked
--     put-sound                  the lines hang as that version asks
--     put-fresh                  and they are what the version's rule makes afresh
--     put-new, put-hangs         the new line is on line k, where the search finds it too
--     put_keeps                  each old line is as it was, but for the number of its parent
--     put_first                  the new line is the first on its entry
--     put_only                   and no other place is so
-- Assumes nothing.
use Rattle.std.specs.Prelude.{Some}
use Prim.Native.Nat.{ℕ, zero, suc, ◌+◌, ◌-◌, ◌≤◌, ◌<◌}
use native.Mathlib.Omega.{arith}
use mathlib.Core.Path.{◌≡◌, refl, sym, ap, ◌∙◌, subst}
use mathlib.Core.Bool.{Bool, true, false, false≢true}
use mathlib.Core.List.{List, [], ◌∷◌}
use lib.ListN.{length, drop, length-drop}
use lib.Seq.{get_or-drop}
use lib.Dec.{eqb}
use borrow.Author.Tests.{eq-eqb, le-leb, lt-ltb}
use Rattle.lists.specs.Pick.{pick}
use Rattle.lists.proofs.Laws.{by_pick}
use Rattle.jkf.specs.Model.{Line, Record}
use Rattle.jkf.specs.Attaching.{near, hangs, Play}
use Rattle.jkf.specs.Trees.{NoTwo}
use Rattle.jkf.proofs.Nears.{near_is, hangs-made}
use Rattle.jkf.proofs.Branching.{Branched}
use Rattle.block.specs.Formed.{line_of}
use Rattle.edit.specs.Edit.{plays_in, fresh, is_ply_of, carries, is_taken, place_of, reparented, renumbered, lines_with, line_on}
use Rattle.edit.specs.inner.Splicing.{relined}
use Rattle.edit.proofs.Renumbering.{put-kept}
use Rattle.edit.proofs.Putting.{Place, put_branched, put_first as first-there, put_single}
use Rattle.edit.proofs.Placing.{place_only}
use Rattle.edit.proofs.Listing.{starts_in, counts_in, parents_in, LinesAs, SingleIn, BranchedIn, none, as_branched, as_single, says_as, put-long, put-lines, put-start, put_count, put-parent, placed}
use Rattle.edit.proofs.Afresh.{fresh-same}

-- ---- a free entry

carried : (k j : ℕ) (ls : List Line) (i : ℕ) → i < length ls → parents_in ls i ≡ k → starts_in ls i ≡ j → carries k j ls ≡ true
unfolding carries
carried k j [] i h p s = absurd (omega arith)
carried k j (l ∷ ls) zero h p s = rw (eq-eqb l.parent k p, eq-eqb l.start j s)
carried k j (l ∷ ls) (suc i) h p s =
    let ih : carries k j ls ≡ true = carried k j ls i (omega arith) p s in
    by_pick (λ (t : Bool). t ≡ true) (eqb l.parent k) (pick (eqb l.start j) true (carries k j ls)) (carries k j ls)
    (λ e. by_pick (λ (t : Bool). t ≡ true) (eqb l.start j) true (carries k j ls) (λ e. refl) (λ e. ih)) (λ e. ih)

-- where refusal 13 is not given, no line is on that entry
not_carried : (ls : List Line) (k j : ℕ) → carries k j (drop 1 ls) ≡ false
    → (i : ℕ) → 0 < i → i < length ls → parents_in ls i ≡ k → starts_in ls i ≡ j → ⊥
not_carried ls k j f i z h p s =
    let e : 1 + (i - 1) ≡ i = omega arith in
    let w : line_of (drop 1 ls) (i - 1) ≡ line_of ls i = get_or-drop 1 ls (i - 1) none ∙ ap (line_of ls) e in
    false≢true
    (sym f
    ∙ carried k j (drop 1 ls) (i - 1) (omega (arith, length-drop 1 ls)) (ap (λ (x : Line). x.parent) w ∙ p) (ap (λ (x : Line). x.start) w ∙ s))

-- ---- what is asked

pub record PutsIn (version : ℕ) (ls : List Line) (k j : ℕ) : Type 0 where
  pub lines : LinesAs version ls
  pub line : k < length ls
  pub ply : is_ply_of (starts_in ls k) (counts_in ls k) j ≡ true
  pub free : is_taken version k j (drop 1 ls) ≡ false

-- in version 1 no line is on that entry
pub unmet : (version : ℕ) (ls : List Line) (k j : ℕ) → PutsIn version ls k j → version ≡ 1
    → (i : ℕ) → 0 < i → i < length ls → parents_in ls i ≡ k → starts_in ls i ≡ j → ⊥
unmet version ls k j ok e =
    let c = carries k j (drop 1 ls) in
    not_carried ls k j (ap (λ (t : Bool). pick t c false) (sym (eq-eqb version 1 e)) ∙ ok.free)

-- ---- what is made

module _ (version : ℕ) (ls : List Line) (k : ℕ) (v : Play) (ok : PutsIn version ls k v.start) where
  abbrev n : ℕ
  n = place_of (plays_in ls) k v.start

  abbrev ls' : List Line
  ls' = lines_with (place_of (plays_in ls) k v.start) (line_on k v) ls

  pub at : Place (starts_in ls) (counts_in ls) (length ls) k v.start n
  at = placed ls k v.start ok.line ok.ply

  pub later : 0 < n
  later = omega (arith, at.past)

  some : 0 < length ls
  some = omega (arith, ok.line)

  g : BranchedIn ls
  g = as_branched version ls some ok.lines

  pub put-length : length ls' ≡ length ls + 1
  put-length = put-long ls n (line_on k v) later at.fits

  some' : 0 < length ls'
  some' = omega (arith, put-length)

  branched' : BranchedIn ls'
  branched' =
      subst (Branched (starts_in ls') (counts_in ls') (parents_in ls')) (sym put-length)
      (put_branched (starts_in ls) (counts_in ls) (parents_in ls) g at (starts_in ls') (counts_in ls') (parents_in ls')
      (put-start ls n (line_on k v) later at.fits) (put_count ls n (line_on k v) later at.fits) (put-parent ls n (line_on k v) later at.fits))

  single' : version ≡ 1 → SingleIn ls'
  single' e =
      subst (NoTwo (starts_in ls') (parents_in ls')) (sym put-length)
      (put_single (starts_in ls) (parents_in ls) (starts_in ls') (parents_in ls') (put-start ls n (line_on k v) later at.fits) (put-parent ls n (line_on k v) later at.fits)
      at.past at.fits (λ i y l. (g.each i y l).before) (unmet version ls k v.start ok e) (as_single version ls some ok.lines e))

  pub put-sound : LinesAs version ls'
  put-sound = says_as version ls' some' branched' single'

  pub put-fresh : (r : Record) → r.version ≡ version → fresh r ls' ≡ relined r.version r ls'
  put-fresh r e = fresh-same ls' some' r (subst (λ (x : ℕ). LinesAs x ls') (sym e) put-sound)

  -- ---- line by line

  pub put_new : line_of ls' n ≡ line_on k v
  put_new = (put-lines ls n (line_on k v) later at.fits).new

  pub put_keeps : (i : ℕ) → line_of ls' (renumbered n i) ≡ reparented (renumbered n) (line_of ls i)
  put_keeps = put-kept (put-lines ls n (line_on k v) later at.fits)

  pub put-hangs : hangs (starts_in ls') (counts_in ls') v.start n ≡ Some (k, v.start - starts_in ls k)
  put-hangs =
      let s = put-start ls n (line_on k v) later at.fits in
      let c = put_count ls n (line_on k v) later at.fits in
      let x = s.before k at.past in
      let e : near (starts_in ls') v.start n ≡ k =
      near_is (starts_in ls') v.start n k at.past (omega (arith, x, at.from)) (λ i a b. omega (arith, s.before i b, at.above i a b)) in
      hangs-made (starts_in ls') (counts_in ls') v.start n k (starts_in ls k) (counts_in ls k) (sym e) (sym x) (sym (c.before k at.past))
      ∙ simp (le-leb _ _ at.from, lt-ltb _ _ at.within)

  pub put_first : (i : ℕ) → 0 < i → i < length ls' → parents_in ls' i ≡ k → starts_in ls' i ≡ v.start → n ≤ i
  put_first i z l =
      first-there (starts_in ls) (counts_in ls) (parents_in ls) g at (starts_in ls') (counts_in ls') (parents_in ls')
      (put-start ls n (line_on k v) later at.fits) (put_count ls n (line_on k v) later at.fits) (put-parent ls n (line_on k v) later at.fits)
      i z (omega (arith, put-length))

  pub put_only : (m : ℕ) → k < m → m ≤ length ls → LinesAs version (lines_with m (line_on k v) ls)
      → ((i : ℕ) → 0 < i → i < length ls + 1 → parents_in (lines_with m (line_on k v) ls) i ≡ k → starts_in (lines_with m (line_on k v) ls) i ≡ v.start → m ≤ i)
      → m ≡ n
  put_only m past fits t =
      let qs = lines_with m (line_on k v) ls in
      let z : 0 < m = omega arith in
      let e = put-long ls m (line_on k v) z fits in
      place_only (starts_in ls) (counts_in ls) (parents_in ls) g at (starts_in qs) (counts_in qs) (parents_in qs)
      (put-start ls m (line_on k v) z fits) (put-parent ls m (line_on k v) z fits) past fits
      (subst (Branched (starts_in qs) (counts_in qs) (parents_in qs)) e (as_branched version qs (omega arith) t))
