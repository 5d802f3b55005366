-- The loop has written the entries passed; one more is the text so far with one entry more, and a front of the whole fits where the whole does.
-- Assumes nothing.
use Prim.Native.Nat.{◌≤◌}
use Rattle.lent.specs.Bytes.{Wrote}
use Rattle.block.specs.Decode.{run}
use Rattle.converter.specs.Entries.{entries_text}
use Rattle.converter.specs.inner.Lines.{noted_said}
use Rattle.converter.proofs.kif.put_entries.Given as goal

abbrev pub invariant-loop-i : goal.invariant-loop-i
invariant-loop-i l = (l.i ≤ l.count) × Wrote (entries_text l.ply (run (noted_said l.mode l.b.bytes.now) l.first l.i)) l.initial.out l.out l.at
