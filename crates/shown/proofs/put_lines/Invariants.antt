-- The loop has written the lines passed, in at most 48 bytes each; one line more is the text so far with that line behind it.
-- Assumes nothing.
use Prim.Native.Nat.{◌*◌, ◌≤◌}
use Rattle.lent.specs.Bytes.{Wrote}
use Rattle.shown.specs.Listing.{rows_text}
use Rattle.shown.proofs.put_lines.Given as goal

abbrev pub invariant-loop-k : goal.invariant-loop-k
invariant-loop-k l = (l.n ≤ 48 * l.k) × Wrote (rows_text l.b l.k) l.initial.out l.out l.n
