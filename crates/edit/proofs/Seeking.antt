-- The searches of `checks` in the rows of a block: what is found from row k on is told by row k and what is found from row k + 1 on.
--     ply-is                                  a ply of a line
--     place_is, passes-..                     the place of a new line
--     run_is, passes-..                       the end of what hangs from a line
--     variations-are, carries-..              whether a line hangs on another at a ply
-- Assumes nothing.
use Prim.Native.Nat.{ℕ, ◌+◌, ◌-◌, ◌≤◌, ◌<◌}
use native.Mathlib.Omega.{arith}
use mathlib.Core.Path.{◌≡◌, refl, sym, ap, ap₂, ◌∙◌}
use mathlib.Core.List.{List}
use mathlib.Core.Bool.{Bool, true, false}
use lib.ListN.{drop}
use lib.Dec.{eqb}
use Rattle.lists.specs.Pick.{pick}
use Rattle.jkf.specs.Model.{Line}
use Rattle.jkf.specs.Attaching.{Play, play, starts, counts}
use Rattle.jkf.specs.Trees.{not_before}
use Rattle.block.specs.Decode.{run, version_in, lines_in, start_of, entry_count, line_in, decode}
use Rattle.block.specs.inner.Sounds.{Sound}
use Rattle.block.proofs.Tabling.{drop-run, run-next, run_end, map-run}
use Rattle.edit.specs.Edit.{plays_in, is_ply_of, carries, above, place_of, removed_from}
use Rattle.edit.proofs.Leading.{Passes}
use Rattle.edit.proofs.Listing.{plays-start, plays-count}
use Rattle.edit.proofs.Removed.{runs_agree}
use Rattle.edit.proofs.Blocks.{start_in, count_in, cuts_out}

-- ---- the rows

module _ (b : List ℕ) where
  -- line k without its parent
  abbrev pub play_in : ℕ → Play
  play_in k = play (line_in b k).start (line_in b k).entries

  pub plays_are : plays_in (decode b).lines ≡ run play_in 0 (lines_in b)
  unfolding decode
  plays_are = map-run (line_in b) (λ (l : Line). play l.start l.entries) 0 (lines_in b)

  pub starts_is : (k : ℕ) → k < lines_in b → starts (plays_in (decode b).lines) k ≡ start_of b k
  starts_is k h = ap (λ (f : ℕ → ℕ). f k) (plays-start (decode b).lines) ∙ start_in b k h

  pub counts_is : (k : ℕ) → k < lines_in b → counts (plays_in (decode b).lines) k ≡ entry_count b k
  counts_is k h = ap (λ (f : ℕ → ℕ). f k) (plays-count (decode b).lines) ∙ count_in b k h

  pub ply_is : (k j : ℕ) → k < lines_in b
      → is_ply_of (starts (plays_in (decode b).lines) k) (counts (plays_in (decode b).lines) k) j ≡ is_ply_of (start_of b k) (entry_count b k) j
  ply_is k j h = ap₂ (λ (s n : ℕ). is_ply_of s n j) (starts_is k h) (counts_is k h)

  module _ (n : ℕ) (e : n ≡ lines_in b) where
    -- the search for a new line's place goes on behind line k
    pub place_is : (k j : ℕ) → k < n → place_of (plays_in (decode b).lines) k j ≡ k + 1 + above j (run play_in (k + 1) (n - (k + 1)))
    place_is k j h =
        ap (λ (ps : List Play). k + 1 + above j (drop (k + 1) ps)) plays_are
        ∙ ap (λ (ps : List Play). k + 1 + above j ps) (drop-run play_in (k + 1) (lines_in b) (omega arith))
        ∙ ap (λ (m : ℕ). k + 1 + above j (run play_in (k + 1) (m - (k + 1)))) (sym e)

    rows_behind : (k : ℕ) → k < n → not_before k (drop (k + 1) (decode b).lines) ≡ not_before k (run (line_in b) (k + 1) (n - (k + 1)))
    unfolding decode
    rows_behind k h =
        ap (not_before k) (drop-run (line_in b) (k + 1) (lines_in b) (omega arith)) ∙ ap (λ (m : ℕ). not_before k (run (line_in b) (k + 1) (m - (k + 1)))) (sym e)

    -- and so does that for the end of what hangs from line k
    pub run_is : Sound b → (k : ℕ) → 0 < k → k < n
        → k + removed_from (version_in b) (decode b).lines k ≡ k + 1 + not_before k (run (line_in b) (k + 1) (n - (k + 1)))
    run_is s k z h = omega (arith, runs_agree (version_in b) (decode b).lines k (cuts_out b s k z (omega arith)), rows_behind k h)

    -- the variations are all lines but line 0
    pub variations_are : (k j : ℕ) → 1 ≤ n → carries k j (drop 1 (decode b).lines) ≡ carries k j (run (line_in b) 1 (n - 1))
    unfolding decode
    variations_are k j h =
        ap (carries k j) (drop-run (line_in b) 1 (lines_in b) (omega arith)) ∙ ap (λ (m : ℕ). carries k j (run (line_in b) 1 (m - 1))) (sym e)

-- ---- how many lines stand before the first that ends a search

module _ {A : Type 0} {past ends : A → Type 0} {h : List A → ℕ} (w : Passes past ends h) (g : ℕ → A) (n k : ℕ) where
  -- past line k
  pub passes_on : k < n → past (g k) → k + h (run g k (n - k)) ≡ k + 1 + h (run g (k + 1) (n - (k + 1)))
  passes_on l p = omega (arith, ap h (run-next g k n k l) ∙ w.first (g k) (run g (k + 1) (n - (k + 1))) p)

  -- line k ends it
  pub passes_stop : k < n → ends (g k) → k + h (run g k (n - k)) ≡ k
  passes_stop l p = omega (arith, ap h (run-next g k n k l) ∙ w.stop (g k) (run g (k + 1) (n - (k + 1))) p)

  -- there is no line left
  pub passes_none : n ≤ k → k + h (run g k (n - k)) ≡ k
  passes_none l = omega (arith, ap h (run_end g k n k l) ∙ w.none)

-- ---- whether a line hangs on line k at ply j

-- two tests, one after the other, are one
both_tests : (t u r : Bool) → pick t (pick u true r) r ≡ pick (pick t u false) true r
both_tests true u r = refl
both_tests false u r = refl

module _ (k j : ℕ) (g : ℕ → Line) (n i : ℕ) where
  -- line i, then the others
  pub carries-next : (t : Bool) → i < n → t ≡ pick (eqb (g i).parent k) (eqb (g i).start j) false
      → carries k j (run g i (n - i)) ≡ pick t true (carries k j (run g (i + 1) (n - (i + 1))))
  unfolding carries
  carries-next t l e =
      let r = carries k j (run g (i + 1) (n - (i + 1))) in
      ap (carries k j) (run-next g i n i l)
      ∙ both_tests (eqb (g i).parent k) (eqb (g i).start j) r
      ∙ ap (λ (u : Bool). pick u true r) (sym e)

  -- there is no line left
  pub carries-none : n ≤ i → carries k j (run g i (n - i)) ≡ false
  unfolding carries
  carries-none l = ap (carries k j) (run_end g i n i l)
