-- The answers of the steps, in the definition's order.
-- Assumes nothing.
use Rattle.reader.specs.TextLines.{text_line_at}
use Rattle.reader.proofs.text_line.Goals as goal

pub returns-in-Some : goal.returns-in-Some
unfolding text_line_at
returns-in-Some c = rw (← c.move_line.ensures, c.in-Some.is)

pub returns-in-Some-comment_line : goal.returns-in-Some-comment_line
unfolding text_line_at
returns-in-Some-comment_line c = rw (← c.move_line.ensures, c.in_default.is, ← c.comment_line.ensures, c.in-Some-comment_line.is)

pub returns : goal.returns
unfolding text_line_at
returns c = rw (← c.move_line.ensures, c.in_default.is, ← c.comment_line.ensures, c.in_default-comment_line.is, ← c.skip_at.ensures)
