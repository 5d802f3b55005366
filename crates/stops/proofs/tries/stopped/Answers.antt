-- The place, what stands before it and what was tried there are the definition's, and the match goes by what was tried.
-- Assumes nothing.
use Rattle.stops.specs.Stopping.{stopped_at, stopped_with}
use Rattle.stops.proofs.tries.stopped.Goals as goal

pub returns-in-None : goal.returns-in-None
unfolding stopped_at stopped_with
returns-in-None c = rw (← c.skips-p.ensures, ← c.seeking_at.ensures, ← c.tried.ensures, c.in-None.is)

pub returns-in-Some : goal.returns-in-Some
unfolding stopped_at stopped_with
returns-in-Some c = rw (← c.skips-p.ensures, ← c.seeking_at.ensures, ← c.tried.ensures, c.in-Some.is)
