-- The answers of the steps, handed on as the definition hands them on.
-- Assumes nothing.
use borrow.Author.Tests.{not-true, not-false}
use Rattle.kakinoki.specs.Boards.{board_at}
use Rattle.kakinoki.proofs.boards.board.Goals as goal

pub returns-in_default : goal.returns-in_default
unfolding board_at
returns-in_default c = rw (← c.ruled.ensures, c.in_default.is, ← c.no_board.ensures)

pub returns-in_default-ruled : goal.returns-in_default-ruled
unfolding board_at
returns-in_default-ruled c = rw (← c.ruled.ensures, c.in-Some.is, ← c.ruled-2.ensures, c.in_default-ruled.is, ← c.no_board-in_default-ruled.ensures)

pub returns-then-not-rows : goal.returns-then-not-rows
unfolding board_at
returns-then-not-rows c = rw (← c.ruled.ensures, c.in-Some.is, ← c.ruled-2.ensures, c.in-Some-ruled.is, ← c.board_rows-rows.ensures, not-true c.board_rows-rows.result.there c.if-not-rows.true, ← c.no_board-then-not-rows.ensures)

pub returns-in_default-ruled-2 : goal.returns-in_default-ruled-2
unfolding board_at
returns-in_default-ruled-2 c = rw (← c.ruled.ensures, c.in-Some.is, ← c.ruled-2.ensures, c.in-Some-ruled.is, ← c.board_rows-rows.ensures, not-false c.board_rows-rows.result.there c.if-not-rows.false, ← c.ruled-3.ensures, c.in_default-ruled-2.is, ← c.no_board-in_default-ruled-2.ensures)

pub returns : goal.returns
unfolding board_at
returns c = rw (← c.ruled.ensures, c.in-Some.is, ← c.ruled-2.ensures, c.in-Some-ruled.is, ← c.board_rows-rows.ensures, not-false c.board_rows-rows.result.there c.if-not-rows.false, ← c.ruled-3.ensures, c.in-Some-ruled-2.is)
