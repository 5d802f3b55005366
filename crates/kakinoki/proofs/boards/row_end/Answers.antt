-- The answers of the steps, handed on as the definition hands them on.
-- Assumes nothing.
use Rattle.kakinoki.specs.Boards.{row_end_at}
use Rattle.kakinoki.proofs.boards.row_end.Goals as goal

pub returns-in_err-past : goal.returns-in_err-past
unfolding row_end_at
returns-in_err-past c = rw (← c.tag.ensures, c.in_err-past.was) c.from_residual.ensures

pub returns-in_default : goal.returns-in_default
unfolding row_end_at
returns-in_default c = rw (← c.tag.ensures, c.in_ok-past.was, ← c.numeral.ensures, c.in_default.is)

pub returns : goal.returns
unfolding row_end_at
returns c = rw (← c.tag.ensures, c.in_ok-past.was, ← c.numeral.ensures, c.in-Some.is, ← c.line_ending.ensures)
