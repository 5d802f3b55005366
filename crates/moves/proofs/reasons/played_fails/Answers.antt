-- The answers of the steps, handed on as the definition hands them on.
-- Assumes nothing.
use Rattle.moves.specs.Failing.{played_fail}
use Rattle.moves.proofs.reasons.played_fails.Goals as goal

pub returns-in_default : goal.returns-in_default
unfolding played_fail
returns-in_default c = rw (← c.what.ensures, c.in_default.is, ← c.what_fails.ensures)

pub returns : goal.returns
unfolding played_fail
returns c = rw (← c.what.ensures, c.in-Some.is, ← c.line_end_fails.ensures)
