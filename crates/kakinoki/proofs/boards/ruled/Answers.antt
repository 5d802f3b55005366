-- The answers of the steps, handed on as the definition hands them on.
-- Assumes nothing.
use Rattle.kakinoki.specs.Boards.{ruled_at}
use Rattle.kakinoki.proofs.boards.ruled.Goals as goal

pub returns-in_err-end : goal.returns-in_err-end
unfolding ruled_at
returns-in_err-end c = rw (← c.tag.ensures, c.in_err-end.was) c.from_residual.ensures

pub returns : goal.returns
unfolding ruled_at
returns c = rw (← c.tag.ensures, c.in_ok-end.was, ← c.line_ending.ensures)
