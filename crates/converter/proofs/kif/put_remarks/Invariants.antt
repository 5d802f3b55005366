-- The loop has written the comments passed; one more is the text so far with one line more, and a front of the whole fits where the whole does.
-- Assumes nothing.
use Prim.Native.Nat.{◌≤◌}
use Rattle.lent.specs.Bytes.{Wrote}
use Rattle.block.specs.Decode.{run, comment_of}
use Rattle.converter.specs.Entries.{remarks_text}
use Rattle.converter.proofs.kif.put_remarks.Given as goal

abbrev pub invariant-loop-i : goal.invariant-loop-i
invariant-loop-i l = (l.i ≤ l.count) × Wrote (remarks_text (run (comment_of l.b) l.first l.i)) l.initial.out l.out l.at
