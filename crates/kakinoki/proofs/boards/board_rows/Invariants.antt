-- The rows from rank 0 on make what those from this rank on make.
-- Assumes nothing.
use Prim.Native.Nat.{◌-◌}
use mathlib.Core.Path.{◌≡◌}
use Rattle.kakinoki.specs.Boards.{rows_from}
use Rattle.kakinoki.proofs.boards.board_rows.Given as goal

abbrev pub invariant-loop-rank : goal.invariant-loop-rank
invariant-loop-rank l = rows_from l.s 0 9 l.initial.next.at l.initial.cells ≡ rows_from l.s l.rank (9 - l.rank) l.next.at l.cells
