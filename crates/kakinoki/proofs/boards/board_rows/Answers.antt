use mathlib.Core.Path.{sym, ◌∙◌}
use borrow.Author.Tests.{not-true, not-false}
use Rattle.kakinoki.proofs.Cells.{rows_more, rows_none, rows_done}
use Rattle.kakinoki.proofs.boards.board_rows.Goals as goal

pub returns-then-not-row : goal.returns-then-not-row
returns-then-not-row c = c.no_board.ensures ∙ sym (c.loop-rank.invariant ∙ rows_none _ _ _ _ _ c.loop-rank-test.true c.board_row-row.ensures (not-true _ c.if-not-row.true))

pub loop-rank-preserved : goal.loop-rank-preserved
loop-rank-preserved c = c.loop-rank.invariant ∙ rows_more _ _ _ _ _ c.loop-rank-test.true c.board_row-row.ensures (not-false _ c.if-not-row.false)

pub returns : goal.returns
returns c = sym (c.loop-rank.invariant ∙ rows_done _ _ _ _ c.loop-rank-test.false)
