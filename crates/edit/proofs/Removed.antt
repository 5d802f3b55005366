-- A line cut out of lines that hang as a version asks, with all that hangs from it.
--     CutsOut          what is asked
--     runs-agree       what 01 cuts in version 1, by the starts, is what hangs from the line
--     cut-takes        so the cut takes that and nothing else, in either version
--     cut-sound        the lines left hang as that version asks
--     cut-fresh        and they are what the version's rule makes afresh
--     cut_keeps        each is as it was, but for the number of its parent, which is left too
-- Assumes nothing.
use Prim.Native.Nat.{ℕ, ◌+◌, ◌-◌, ◌≤◌, ◌<◌}
use native.Mathlib.Omega.{arith}
use native.Mathlib.Decide.{dec_lt}
use mathlib.Core.Logic.{◌↔◌}
use mathlib.Core.Path.{◌≡◌, refl, sym, ap, subst}
use mathlib.Core.Bool.{Bool, true, false}
use mathlib.Core.List.{List, []}
use lib.ListN.{length, drop}
use lib.Dec.{eqb}
use borrow.Author.Tests.{eqb-true}
use Rattle.lists.specs.Pick.{pick}
use Rattle.jkf.specs.Model.{Line, Record}
use Rattle.jkf.specs.Attaching.{Play, play, starts}
use Rattle.jkf.specs.Trees.{HangsFrom, NoTwo, reach}
use Rattle.jkf.proofs.Nears.{near_last}
use Rattle.jkf.proofs.Chains.{from_start}
use Rattle.jkf.proofs.Branching.{Branched, branched_falls, starts_fall}
use Rattle.jkf.proofs.OneTwo.{Found, found_says}
use Rattle.jkf.proofs.Reaching.{Reaches, reach_is}
use Rattle.block.specs.Formed.{line_of}
use Rattle.edit.specs.Edit.{plays_in, fresh, reparented, not_below, removed_from, lowered, IsKept, without_lines}
use Rattle.edit.specs.inner.Splicing.{relined}
use Rattle.edit.proofs.Leading.{Runs, below_passes, behind}
use Rattle.edit.proofs.Renumbering.{cut-kept}
use Rattle.edit.proofs.Cutting.{kept-parent, cut_branched, cut_single}
use Rattle.edit.proofs.Listing.{starts_in, counts_in, parents_in, LinesAs, SingleIn, BranchedIn, as_branched, as_single, says_as, cut-long, cut-lines, cut-start, cut-count, cut-parent, reaches, plays-at, plays-long}
use Rattle.edit.proofs.Afresh.{fresh-same}

-- ---- version 1's words

module _ (ls : List Line) (s : LinesAs 1 ls) (k : ℕ) (line : k < length ls) where
  abbrev starting : ℕ
  starting = 1 + not_below (starts (plays_in ls) k) (drop (k + 1) (plays_in ls))

  g₁ : BranchedIn ls
  g₁ = as_branched 1 ls (omega arith) s

  found : Found (starts_in ls) (counts_in ls) (parents_in ls) (length ls)
  found = found_says (starts_in ls) (counts_in ls) (parents_in ls) (length ls) (omega arith) s

  hung : Reaches (parents_in ls) (length ls) k (reach ls k)
  hung = reaches ls k line

  st : (i : ℕ) → starts (plays_in ls) i ≡ starts_in ls i
  st i = ap (λ (p : Play). p.start) (plays-at ls i)

  run : Runs (play 0 []) (λ (p : Play). starts (plays_in ls) k ≤ p.start) (λ (p : Play). p.start < starts (plays_in ls) k) (plays_in ls) (k + 1)
      (not_below (starts (plays_in ls) k) (drop (k + 1) (plays_in ls)))
  run = behind (play 0 []) (below_passes (starts (plays_in ls) k)) (plays_in ls) (k + 1) (omega (arith, plays-long ls))

  -- a line that hangs from line k does not start below it; and the line after those hangs on one before line k, which is the nearest that does not start
  -- above it
  runs_same : starting ≡ reach ls k
  runs_same = go (dec_lt starting r) (dec_lt r starting)
    where
      r : ℕ
      r = reach ls k

      go : Dec (starting < r) → Dec (r < starting) → starting ≡ r
      go (yes x) y =
          let e : k + 1 + not_below (starts (plays_in ls) k) (drop (k + 1) (plays_in ls)) ≡ k + starting = omega arith in
          let b : k + starting < length ls = omega (arith, hung.within) in
          let f = (reach_is (starts_in ls) (counts_in ls) (parents_in ls) g₁ hung (k + starting) b).1 (omega arith, omega arith) in
          let t = from_start (branched_falls (starts_in ls) (counts_in ls) (parents_in ls) g₁) (starts_in ls) (starts_fall (starts_in ls) (counts_in ls) (parents_in ls) g₁) f b in
          absurd (omega (arith, run.next (omega (arith, plays-long ls)), ap (starts (plays_in ls)) e, st k, st (k + starting)))
      go (no x) (yes y) =
          let b : k + r < length ls = omega (arith, run.within, plays-long ls) in
          let p = hung.next b in
          let q = found.near (k + r) (omega (arith, hung.some)) b in
          absurd
          (omega (
            arith,
            run.each (k + r) (omega (arith, hung.some)) (omega arith),
            st k,
            st (k + r),
            near_last (starts_in ls) (starts_in ls (k + r)) (k + r) k (omega arith) (omega (arith, hung.some)),
          ))
      go (no x) (no y) = omega arith

-- ---- what is asked

pub record CutsOut (version : ℕ) (ls : List Line) (k : ℕ) : Type 0 where
  pub lines : LinesAs version ls
  pub later : 0 < k
  pub line : k < length ls

-- ---- what is left

module _ (version : ℕ) (ls : List Line) (k : ℕ) (ok : CutsOut version ls k) where
  abbrev m : ℕ
  m = removed_from version ls k

  abbrev ls'' : List Line
  ls'' = without_lines k (removed_from version ls k) ls

  pub runs_agree : removed_from version ls k ≡ reach ls k
  runs_agree = go (eqb version 1) (λ e. runs_same ls (subst (λ (x : ℕ). LinesAs x ls) (eqb-true version 1 e) ok.lines) k ok.line)
    where
      x : ℕ
      x = 1 + not_below (starts (plays_in ls) k) (drop (k + 1) (plays_in ls))

      go : (one : Bool) → (one ≡ true → x ≡ reach ls k) → pick one x (reach ls k) ≡ reach ls k
      go true f = f refl
      go false f = refl

  pub cut-run : Reaches (parents_in ls) (length ls) k m
  cut-run = subst (Reaches (parents_in ls) (length ls) k) (sym runs_agree) (reaches ls k ok.line)

  some : 0 < length ls
  some = omega (arith, ok.line)

  g : BranchedIn ls
  g = as_branched version ls some ok.lines

  pub cut_takes : (i : ℕ) → i < length ls → HangsFrom (parents_in ls) k i ↔ ((k ≤ i) × (i < k + m))
  cut_takes = reach_is (starts_in ls) (counts_in ls) (parents_in ls) g cut-run

  pub cut-length : length ls'' ≡ length ls - m
  cut-length = cut-long ls k m ok.later cut-run.within

  some'' : 0 < length ls''
  some'' = omega (arith, cut-length, cut-run.within, ok.later)

  branched'' : BranchedIn ls''
  branched'' =
      subst (Branched (starts_in ls'') (counts_in ls'') (parents_in ls'')) (sym cut-length)
      (cut_branched (starts_in ls) (counts_in ls) (parents_in ls) g cut-run ok.later (starts_in ls'') (counts_in ls'') (parents_in ls'')
      (cut-start ls k m ok.later cut-run.within) (cut-count ls k m ok.later cut-run.within) (cut-parent ls k m ok.later cut-run.within))

  parents_left : (i : ℕ) → i < length ls → IsKept k m i → IsKept k m (parents_in ls i)
  parents_left = kept-parent (starts_in ls) (counts_in ls) (parents_in ls) g cut-run ok.later

  single'' : version ≡ 1 → SingleIn ls''
  single'' e =
      subst (NoTwo (starts_in ls'') (parents_in ls'')) (sym cut-length)
      (cut_single (starts_in ls) (parents_in ls) (starts_in ls'') (parents_in ls'') (cut-start ls k m ok.later cut-run.within) (cut-parent ls k m ok.later cut-run.within)
      cut-run.within parents_left (as_single version ls some ok.lines e))

  pub cut-sound : LinesAs version ls''
  cut-sound = says_as version ls'' some'' branched'' single''

  pub cut-fresh : (r : Record) → r.version ≡ version → fresh r ls'' ≡ relined r.version r ls''
  cut-fresh r e = fresh-same ls'' some'' r (subst (λ (x : ℕ). LinesAs x ls'') (sym e) cut-sound)

  pub cut_keeps : (i : ℕ) → i < length ls → IsKept k m i
      → (line_of ls'' (lowered k m i) ≡ reparented (lowered k m) (line_of ls i)) × IsKept k m (parents_in ls i)
  cut_keeps i l f = (cut-kept (cut-lines ls k m ok.later cut-run.within) i f, parents_left i l f)
