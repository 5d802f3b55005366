-- The answers of the steps, handed on as the definition hands them on.
-- Assumes nothing.
use Rattle.moves.specs.Moves.{kept_at}
use Rattle.moves.proofs.remarks.kept.Goals as goal

pub returns-in_err-past : goal.returns-in_err-past
unfolding kept_at
returns-in_err-past c = rw (← c.tag.ensures, c.in_err-past.was) c.from_residual.ensures

pub returns : goal.returns
unfolding kept_at
returns c = rw (← c.tag.ensures, c.in_ok-past.was, ← c.remark_from.ensures)
