use mathlib.Core.Path.{sym, ◌∙◌}
use Rattle.kakinoki.proofs.Cells.{cells-more, cells-none, cells_done}
use Rattle.kakinoki.proofs.boards.board_cells.Goals as goal

pub returns-in_default : goal.returns-in_default
returns-in_default c = c.no_board.ensures ∙ sym (c.loop-n.invariant ∙ cells-none _ _ _ _ _ c.loop-n-test.true (sym c.board_piece.ensures ∙ c.in_default.is))

pub loop-n-preserved : goal.loop-n-preserved
loop-n-preserved c = c.loop-n.invariant ∙ cells-more _ _ _ _ _ _ _ c.loop-n-test.true (sym c.board_piece.ensures ∙ c.in-Some.is)

pub returns : goal.returns
returns c = sym (c.loop-n.invariant ∙ cells_done _ _ _ _ _ c.loop-n-test.false)
