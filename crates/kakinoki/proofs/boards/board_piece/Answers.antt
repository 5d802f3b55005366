-- The answers of the steps, handed on as the definition hands them on.
-- Assumes nothing.
use Rattle.kakinoki.specs.Boards.{cell_at}
use Rattle.kakinoki.proofs.boards.board_piece.Goals as goal

pub returns-in_default-tag : goal.returns-in_default-tag
unfolding cell_at
returns-in_default-tag c = rw (← c.tag.ensures, c.in_default.is, ← c.tag-in_default.ensures, c.in_default-tag.is, ← c.white_piece.ensures)

pub returns-in_default : goal.returns-in_default
unfolding cell_at
returns-in_default c = rw (← c.tag.ensures, c.in_default.is, ← c.tag-in_default.ensures, c.in-Some-tag.is, ← c.kind.ensures)

pub returns : goal.returns
unfolding cell_at
returns c = rw (← c.tag.ensures, c.in-Some.is)
