-- The answers of the steps, handed on as the definition hands them on.
-- Assumes nothing.
use Rattle.moves.specs.Moves.{comment_line_at}
use Rattle.moves.proofs.remarks.comment_line.Goals as goal

pub returns-in_default : goal.returns-in_default
unfolding comment_line_at
returns-in_default c = rw (← c.tag.ensures, c.in_default.is, ← c.kept.ensures)

pub returns : goal.returns
unfolding comment_line_at
returns c = rw (← c.tag.ensures, c.in-Some.is) c.remark_from.ensures
