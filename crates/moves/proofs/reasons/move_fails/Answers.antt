-- The answers of the steps, handed on as the definition hands them on.
-- Assumes nothing.
use Rattle.moves.specs.Failing.{move_fail}
use Rattle.moves.proofs.reasons.move_fails.Goals as goal

pub returns-in_default : goal.returns-in_default
unfolding move_fail
returns-in_default c = rw (← c.move_to.ensures, c.in_default.is, ← c.move_to_fails.ensures)

pub returns : goal.returns
unfolding move_fail
returns c = rw (← c.move_to.ensures, c.in-Some.is, ← c.piece_fails.ensures)
