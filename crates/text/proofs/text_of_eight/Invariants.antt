-- Of the eight bytes the first i were passed.
-- Assumes nothing.
use Prim.Native.Nat.{◌+◌}
use Rattle.text.specs.inner.Runs.{Run}
use Rattle.text.specs.Text.{text_at}
use Rattle.text.proofs.text_of_eight.Given as goal

abbrev pub invariant-loop-i : goal.invariant-loop-i
invariant-loop-i l = Run (text_at l.s) l.s l.at (l.at + l.i)
