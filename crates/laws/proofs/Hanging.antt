-- What is known of lines that hang as a version asks, whichever it is: a parent stands before its line, and a line starts no later than all
-- entries before it are many. So starts and parents fit (`start-low`, `parent-low`).
-- Assumes nothing.
use Prim.Native.Nat.{ℕ, zero, suc, ◌≤◌, ◌<◌}
use native.Mathlib.Omega.{arith}
use native.Mathlib.Decide.{dec_lt}
use mathlib.Core.Path.{◌≡◌, subst}
use Rattle.jkf.proofs.Chains.{parent-low as falls-low}
use Rattle.jkf.proofs.Branching.{Branched, branched_falls}
use Rattle.block.specs.Sound.{sum}
use Rattle.block.proofs.Sums.{sum-within}

module _ (start count parent : ℕ → ℕ) {n : ℕ} (g : Branched start count parent n) where
  low-within : (m k : ℕ) → k < m → k < n → start k ≤ sum count k
  low-within zero k h l = absurd (omega arith)
  low-within (suc m) k h l = go (dec_lt 0 k) (low-within m)
    where
      go : Dec (0 < k) → ((j : ℕ) → j < m → j < n → start j ≤ sum count j) → start k ≤ sum count k
      go (yes z) ih =
          let r = g.each k z l in
          let p = parent k in
          let b = r.before in
          omega (arith, r.from, r.within, ih p (omega arith) (omega arith), sum-within count p k b)
      go (no z) ih =
          let e : 0 ≡ k = omega arith in
          subst (λ (j : ℕ). start j ≤ sum count j) e (omega (arith, g.origin))

  pub start-low : (k : ℕ) → k < n → start k ≤ sum count k
  start-low k l = low-within (suc k) k (omega arith) l

  pub parent-low : (k : ℕ) → k < n → parent k ≤ k
  parent-low = falls-low (branched_falls start count parent g)
