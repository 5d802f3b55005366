-- The keys before entry k ascend, and the last of them is at hand; the last key has no next (`Spans`).
-- Assumes nothing.
use Rattle.block.specs.Sound.{ascends}
use Rattle.block.specs.Decode.{key_of}
use Rattle.lists.specs.Test.{all_below, flag}
use mathlib.Core.Bool.{true}
use mathlib.Core.Path.{◌≡◌}
use Prim.Native.Nat.{ℕ, ◌-◌, ◌≤◌}
use Rattle.block.proofs.tables.keys_ascend.Given as goal

abbrev pub invariant-loop-k : goal.invariant-loop-k
invariant-loop-k l = (l.k - 1 ≤ l.n) × (l.key ≡ key_of l.b (l.k - 1)) × (all_below (λ (j : ℕ). flag (ascends l.b j)) (l.k - 1) ≡ true)
