-- The answers of the steps, handed on as the definition hands them on.
-- Assumes nothing.
use Rattle.moves.specs.Moves.{remark_from}
use Rattle.moves.proofs.remarks.remark_from.Goals as goal

pub returns-in_err-to : goal.returns-in_err-to
unfolding remark_from
returns-in_err-to c = rw (← c.tail.ensures, c.in_err-to.was) c.from_residual.ensures

pub returns-in_err-next : goal.returns-in_err-next
unfolding remark_from
returns-in_err-next c = rw (← c.tail.ensures, c.in_ok-to.was, ← c.line_ending.ensures, c.in_err-next.was) c.from_residual-in_err-next.ensures

pub returns : goal.returns
unfolding remark_from
returns c = rw (← c.tail.ensures, c.in_ok-to.was, ← c.line_ending.ensures, c.in_ok-next.was)
