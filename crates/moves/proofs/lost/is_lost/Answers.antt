-- A time that was read is not lost.
-- Assumes nothing.
use Rattle.moves.specs.Lost.{lost_at}
use Rattle.moves.proofs.lost.is_lost.Goals as goal

pub returns-in-Untimed : goal.returns-in-Untimed
unfolding lost_at
returns-in-Untimed c = rw (← c.requires, c.in-Untimed.is, ← c.over.ensures)

pub returns-in-Timed : goal.returns-in-Timed
unfolding lost_at
returns-in-Timed c = rw (← c.requires, c.in-Timed.is)
