-- The invariant: of i characters n are counted, and where all are, they are one run.
-- Assumes nothing.
use Prim.Native.Nat.{◌+◌, ◌*◌, ◌≤◌}
use mathlib.Core.Path.{◌≡◌}
use Rattle.text.specs.inner.Runs.{Run}
use Rattle.text.specs.Text.{past_all}
use Rattle.text.specs.Utf8.{char_width}
use Rattle.text.proofs.utf8.are_threes.Given as goal

abbrev pub invariant-loop-i : goal.invariant-loop-i
invariant-loop-i l = (l.n ≤ l.i) × (l.n ≡ l.i → Run (past_all char_width l.s) l.s l.at (l.at + 3 * l.i))
