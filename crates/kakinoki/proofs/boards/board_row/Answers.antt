-- The answers of the steps, handed on as the definition hands them on.
-- Assumes nothing.
use borrow.Author.Tests.{not-true, not-false}
use Rattle.kakinoki.specs.Boards.{row_at}
use Rattle.kakinoki.proofs.boards.board_row.Goals as goal

pub returns-in_default : goal.returns-in_default
unfolding row_at
returns-in_default c = rw (← c.tag.ensures, c.in_default.is, ← c.no_board.ensures)

pub returns-then-not-row : goal.returns-then-not-row
unfolding row_at
returns-then-not-row c = rw (← c.tag.ensures, c.in-Some.is, ← c.board_cells-row.ensures, not-true c.board_cells-row.result.there c.if-not-row.true, ← c.no_board-then-not-row.ensures)

pub returns-in_default-row_end : goal.returns-in_default-row_end
unfolding row_at
returns-in_default-row_end c = rw (← c.tag.ensures, c.in-Some.is, ← c.board_cells-row.ensures, not-false c.board_cells-row.result.there c.if-not-row.false, ← c.row_end.ensures, c.in_default-row_end.is, ← c.no_board-in_default-row_end.ensures)

pub returns : goal.returns
unfolding row_at
returns c = rw (← c.tag.ensures, c.in-Some.is, ← c.board_cells-row.ensures, not-false c.board_cells-row.result.there c.if-not-row.false, ← c.row_end.ensures, c.in-Some-row_end.is)
