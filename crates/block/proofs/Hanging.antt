-- What the test of a line says of where it hangs, in either version.
--     hang-first, hang-says     line 0; in version 1 a later line hangs on the line that the attaching rule finds for it
--     lines-hung                lines that hold their tests hang as the version asks
--     sound-branched            so the lines of a sound block are a tree
--     lines-linked              and in version 1 they have the parents that a search may follow
-- Assumes nothing.
use Prim.Native.Nat.{ℕ, ◌<◌}
use native.Mathlib.Omega.{arith}
use mathlib.Core.Path.{◌≡◌, sym, ap, ◌∙◌, subst}
use mathlib.Core.Bool.{Bool, true, false, false≢true}
use mathlib.Core.List.{List}
use lib.ListN.{drop}
use lib.Dec.{eqb}
use borrow.Author.Tests.{eqb-true, ne_eqb}
use Rattle.lists.specs.Pick.{pick}
use Rattle.lists.specs.Test.{◌equals◌, ◌and◌, flag, claim}
use Rattle.lists.proofs.Tests.{says}
use Rattle.jkf.specs.Attaching.{near, hangs, on_hang}
use Rattle.jkf.specs.Following.{start_at, parent_at, Linked}
use Rattle.jkf.specs.Trees.{hang_test, HangAs}
use Rattle.jkf.proofs.Nears.{near_same, Hangs, hangs_says}
use Rattle.jkf.proofs.Branching.{Branched}
use Rattle.jkf.proofs.OneTwo.{branched_as}
use Rattle.block.specs.Decode.{version_in, lines_in, line_place, start_of, entry_count, parent_of}
use Rattle.block.specs.Sound.{line_test}
use Rattle.block.specs.inner.Sounds.{Sound}
use Rattle.block.proofs.LineTables.{table-start, table-parent}

-- ---- where a line hangs

module _ (start count parent : ℕ → ℕ) where
  pub hang-first : (v : ℕ) → claim (hang_test v start count parent 0) → (start 0 ≡ 0) × (parent 0 ≡ 0)
  hang-first v h = says (start 0 equals 0 and parent 0 equals 0) h

  pub hang_says : (k : ℕ) → 0 < k → claim (hang_test 1 start count parent k) → (parent k ≡ near start (start k) k) × Hangs start count k
  hang_says k h c =
      let main = flag (start 0 equals 0 and parent 0 equals 0) in
      let later = on_hang (hangs start count (start k) k) (λ p e. eqb (parent k) p) false in
      let e : pick (eqb k 0) main later ≡ later = ap (λ (u : Bool). pick u main later) (ne_eqb k 0 (λ e. omega arith)) in
      let (g, q) = hangs_says start count k (λ p e. eqb (parent k) p) false true false≢true (sym e ∙ c) in
      (eqb-true _ _ q, g)

-- ---- in a block

pub lines_hung : (b : List ℕ) (k : ℕ) → ((i : ℕ) → i < k → claim (line_test b i)) → HangAs (version_in b) (start_of b) (entry_count b) (parent_of b) k
lines_hung b k h i l = (h i l).1.1

pub sound_branched : (b : List ℕ) → Sound b → Branched (start_of b) (entry_count b) (parent_of b) (lines_in b)
sound_branched b s = branched_as (start_of b) (entry_count b) (parent_of b) (version_in b) (lines_in b) s.totals.0 (lines_hung b (lines_in b) s.lines)

-- in version 1 lines that hold their tests have the parents that a search may follow
pub lines_linked : (b : List ℕ) (k : ℕ) → version_in b ≡ 1 → ((i : ℕ) → i < k → claim (line_test b i)) → Linked (drop (line_place b 0) b) k
lines_linked b k one h = record { parents = linked }
  where
    linked : (i : ℕ) → 0 < i → i < k → parent_at (drop (line_place b 0) b) i ≡ near (start_at (drop (line_place b 0) b)) (start_at (drop (line_place b 0) b) i) i
    linked i z l =
        let t : claim (hang_test 1 (start_of b) (entry_count b) (parent_of b) i) = subst (λ (v : ℕ). claim (hang_test v (start_of b) (entry_count b) (parent_of b) i)) one (h i l).1.1 in
        table-parent b i ∙ (hang_says (start_of b) (entry_count b) (parent_of b) i z t).0
        ∙ ap (λ (s : ℕ). near (start_of b) s i) (sym (table-start b i)) ∙ sym (near_same (start_at (drop (line_place b 0) b)) (start_of b) (start_at (drop (line_place b 0) b) i) i (λ j m. table-start b j))
