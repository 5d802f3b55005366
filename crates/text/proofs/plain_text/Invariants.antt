-- What was passed from the start to here, at first sixteen bytes at a time, and then eight bytes more or fewer, is one run.
-- Assumes nothing.
use Prim.Native.Nat.{◌-◌, ◌≤◌}
use lib.ListN.{length}
use Rattle.text.specs.inner.Runs.{Run}
use Rattle.text.specs.Text.{text_at}
use Rattle.text.proofs.plain_text.Given as goal

abbrev pub invariant-loop-at : goal.invariant-loop-at
invariant-loop-at l = (Run (text_at l.s) l.s l.from l.at) × (l.at ≤ length l.s)

abbrev pub decreases-loop-at : goal.decreases-loop-at
decreases-loop-at l = length l.s - l.at
