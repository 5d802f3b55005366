-- What hangs from a line is the line and the run after it whose parents are not before it.
--     Reaches          the run
--     reach-is         what comes from line k is line k to the end of the run
--     after_run        the line after the run hangs on the parent of line k or on a line before that
-- Assumes nothing.
use Prim.Native.Nat.{ℕ, zero, suc, ◌+◌, ◌-◌, ◌≤◌, ◌<◌}
use native.Mathlib.Omega.{arith}
use native.Mathlib.Decide.{dec_lt}
use mathlib.Core.Logic.{◌↔◌}
use mathlib.Core.Path.{◌≡◌}
use Rattle.jkf.specs.Trees.{HangsFrom, itself, through}
use Rattle.jkf.proofs.Chains.{Falls, from_low, from_both}
use Rattle.jkf.proofs.Branching.{Branched, branched_falls, no_gap}

-- of n lines, r from line k on: the later ones hang on lines not before line k, and the next does not
pub record Reaches (parent : ℕ → ℕ) (n k r : ℕ) : Type 0 where
  pub some : 0 < r
  pub within : k + r ≤ n
  pub each : (i : ℕ) → k < i → i < k + r → k ≤ parent i
  pub next : k + r < n → parent (k + r) < k

module _ (start count parent : ℕ → ℕ) {n : ℕ} (g : Branched start count parent n) {k r : ℕ} (run : Reaches parent n k r) where
  abbrev w : Falls parent n
  w = branched_falls start count parent g

  in_run : (m i : ℕ) → i < m → k ≤ i → i < k + r → HangsFrom parent k i
  in_run zero i h a b = absurd (omega arith)
  in_run (suc m) i h a b = go (dec_lt k i) (in_run m (parent i))
    where
      go : Dec (k < i) → (parent i < m → k ≤ parent i → parent i < k + r → HangsFrom parent k (parent i)) → HangsFrom parent k i
      go (no c) ih = let e : i ≡ k = omega arith in itself e
      go (yes c) ih =
          let p = (g.each i (omega arith) (omega (arith, run.within))).before in
          through (ih (omega arith) (run.each i c b) (omega arith))

  past-run : HangsFrom parent k (k + r) → k + r < n → ⊥
  past-run (itself e) h = omega (arith, run.some)
  past-run (through f) h = omega (arith, run.next h, from_low w f (omega (arith, run.next h)))

  short : {i : ℕ} → HangsFrom parent k i → i < n → i < k + r
  short {i} f h = go (dec_lt i (k + r))
    where
      go : Dec (i < k + r) → i < k + r
      go (yes l) = l
      go (no l) = absurd (past-run (no_gap start count parent g i (k + r) h f (omega arith) (omega arith)) (omega arith))

  pub reach_is : (i : ℕ) → i < n → HangsFrom parent k i ↔ ((k ≤ i) × (i < k + r))
  reach_is i h = (λ f. (from_low w f h, short f h), λ (a, b). in_run (suc i) i (omega arith) a b)

  above-run : {p : ℕ} → HangsFrom parent p k → p < k → HangsFrom parent p (parent k)
  above-run (itself e) l = absurd (omega arith)
  above-run (through f) l = f

  -- its parent is on the chain of line k
  pub next-parent : 0 < k → k + r < n → HangsFrom parent (parent (k + r)) (parent k)
  next-parent z h =
      let s = run.some in
      let c : HangsFrom parent k (k + r - 1) = in_run (k + r) (k + r - 1) (omega arith) (omega arith) (omega arith) in
      let l = run.next h in
      above-run (from_both w c (g.each (k + r) (omega arith) h).chain (omega arith) (omega arith)) l

  pub after_run : 0 < k → k + r < n → parent (k + r) ≤ parent k
  after_run z h =
      let s = run.some in
      from_low w (next-parent z h) (omega (arith, (g.each k z (omega arith)).before))
