-- A loop over the rows of a table: those passed are sound, and what they take up is added up. All four tables are gone through so.
-- Assumes nothing.
use Prim.Native.Nat.{ℕ, ◌+◌, ◌<◌}
use native.Mathlib.Omega.{arith}
use mathlib.Core.Path.{◌≡◌}
use mathlib.Core.Bool.{true, false}
use Rattle.lists.specs.Test.{Test, each, all_below, flag}
use Rattle.lists.proofs.Tests.{all_none, all_more, all_not}
use Rattle.block.specs.Sound.{sum}
use Rattle.block.proofs.Sums.{sum-none, sum_more}

pub record Passed (t : ℕ → Test) (f : ℕ → ℕ) (base k at : ℕ) : Type 0 where
  pub sound : all_below (λ j. flag (t j)) k ≡ true
  pub sums : at ≡ base + sum f k

module _ (t : ℕ → Test) (f : ℕ → ℕ) where
  pub passed_start : (base at : ℕ) → at ≡ base → Passed t f base 0 at
  passed_start base at e = record { sound = all_none (λ j. flag (t j)); sums = omega (arith, sum-none f) }

  pub passed_more : {base k at : ℕ} (at' : ℕ) → Passed t f base k at → flag (t k) ≡ true → at' ≡ at + f k → Passed t f base (k + 1) at'
  passed_more {base} {k} {at} at' p h e = record { sound = all_more (λ j. flag (t j)) k p.sound h; sums = omega (arith, p.sums, sum_more f k) }

  -- a row that is not sound
  pub passed_not : (n k : ℕ) → k < n → flag (t k) ≡ false → flag (each n t) ≡ false
  passed_not n k l h = all_not (λ j. flag (t j)) n k l h

  -- all rows
  pub passed_all : {base k at : ℕ} (n : ℕ) → Passed t f base k at → k ≡ n → flag (each n t) ≡ true
  passed_all {base} {k} {at} n p e = rw e at p.sound
