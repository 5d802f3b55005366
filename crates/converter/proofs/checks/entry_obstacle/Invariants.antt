-- What stands in the way from entry i on is what stands in the way of the line.
-- Assumes nothing.
use Prim.Native.Nat.{◌+◌, ◌-◌, ◌≤◌}
use mathlib.Core.Path.{◌≡◌}
use Rattle.block.specs.Decode.{run}
use Rattle.converter.specs.Show.{entry_obstacle}
use Rattle.converter.specs.inner.Lines.{noted_said}
use Rattle.converter.proofs.checks.entry_obstacle.Given as goal

abbrev pub invariant-loop-i : goal.invariant-loop-i
invariant-loop-i l = (l.i ≤ l.count) × (entry_obstacle l.line 0 (run (noted_said l.mode l.b) l.first l.count) ≡ entry_obstacle l.line l.i (run (noted_said l.mode l.b) (l.first + l.i) (l.count - l.i)))
