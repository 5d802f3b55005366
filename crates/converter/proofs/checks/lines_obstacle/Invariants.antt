-- What stands in the way from line k on is what stands in the way of all that are shown.
-- Assumes nothing.
use Prim.Native.Nat.{◌-◌, ◌≤◌}
use mathlib.Core.Path.{◌≡◌}
use Rattle.block.specs.Decode.{run, decode}
use Rattle.converter.specs.Said.{said_lines}
use Rattle.converter.specs.Show.{line_obstacle}
use Rattle.converter.specs.inner.Lines.{line_said}
use Rattle.converter.proofs.checks.lines_obstacle.Given as goal

abbrev pub invariant-loop-k : goal.invariant-loop-k
invariant-loop-k l = (l.k ≤ l.s.lines) × (line_obstacle 0 (said_lines l.mode (decode l.s.block.bytes.now).lines) ≡ line_obstacle l.k (run (line_said l.mode l.s.block.bytes.now) l.k (l.s.lines - l.k)))
