-- The answers of the steps, handed on as the definition hands them on.
-- Assumes nothing.
use Rattle.moves.specs.Moves.{time_at}
use Rattle.moves.proofs.clocks.time.Goals as goal

pub returns-in_default : goal.returns-in_default
unfolding time_at
returns-in_default c = rw (← c.tag.ensures, c.in_default.is)

pub returns : goal.returns
unfolding time_at
returns c = rw (← c.tag.ensures, c.in-Some.is, ← c.two_clocks.ensures)
