-- Whether a line from i on hangs there is whether any variation does.
-- Assumes nothing.
use Prim.Native.Nat.{◌-◌, ◌≤◌}
use mathlib.Core.Path.{◌≡◌}
use lib.ListN.{drop}
use Rattle.block.specs.Decode.{run, line_in, decode}
use Rattle.edit.specs.Edit.{carries}
use Rattle.edit.proofs.checks.carries.Given as goal

abbrev pub invariant-loop-i : goal.invariant-loop-i
invariant-loop-i l = (l.i ≤ l.lines) × (carries l.k l.j (drop 1 (decode l.b.bytes.now).lines) ≡ carries l.k l.j (run (line_in l.b.bytes.now) l.i (l.lines - l.i)))
