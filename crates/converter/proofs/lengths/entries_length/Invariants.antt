-- The loop's invariant: the number is how long the entries passed are, at most 4295032904 each.
-- Assumes nothing.
use Prim.Native.Nat.{◌*◌, ◌≤◌}
use mathlib.Core.Path.{◌≡◌}
use lib.ListN.{length}
use Rattle.block.specs.Decode.{run}
use Rattle.converter.specs.Entries.{entries_text}
use Rattle.converter.specs.inner.Lines.{noted_said}
use Rattle.converter.proofs.lengths.entries_length.Given as goal

abbrev pub invariant-loop-i : goal.invariant-loop-i
invariant-loop-i l = (l.i ≤ l.count) × (l.n ≡ length (entries_text l.ply (run (noted_said l.mode l.b.bytes.now) l.first l.i))) × (l.n ≤ 4295032904 * l.i)
