-- Of the eight bytes the first i were passed.
-- Assumes nothing.
use Prim.Native.Nat.{◌+◌}
use Rattle.text.specs.inner.Runs.{Run}
use Rattle.text.specs.Text.{past_all}
use Rattle.text.specs.Utf8.{char_width}
use Rattle.text.proofs.utf8.ascii_of_eight.Given as goal

abbrev pub invariant-loop-i : goal.invariant-loop-i
invariant-loop-i l = Run (past_all char_width l.s) l.s l.at (l.at + l.i)
