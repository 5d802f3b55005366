-- The loop's invariant: the rows below `rank` have been written.
-- Assumes nothing.
use Prim.Native.Nat.{◌≤◌}
use Rattle.lent.specs.Bytes.{Wrote}
use Rattle.converter.specs.Diagrams.{board_row}
use Rattle.converter.proofs.Ranged.{up_to}
use Rattle.converter.proofs.starts.put_rows.Given as goal

abbrev pub invariant-loop-rank : goal.invariant-loop-rank
invariant-loop-rank l = (l.rank ≤ 9) × Wrote (up_to (board_row l.cells) l.rank) l.initial.out l.out l.at
