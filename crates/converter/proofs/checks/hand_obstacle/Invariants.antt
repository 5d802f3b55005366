-- What stands in the way from count i on is what stands in the way of all.
-- Assumes nothing.
use Prim.Native.Nat.{◌-◌, ◌≤◌}
use mathlib.Core.Path.{◌≡◌}
use Rattle.converter.specs.Show.{hand_obstacle}
use Rattle.converter.proofs.checks.hand_obstacle.Given as goal

abbrev pub invariant-loop-i : goal.invariant-loop-i
invariant-loop-i l = (l.i ≤ 14) × (hand_obstacle l.hands 0 14 ≡ hand_obstacle l.hands l.i (14 - l.i))
