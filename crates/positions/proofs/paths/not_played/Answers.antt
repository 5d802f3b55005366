-- Each part is asked.
-- Assumes nothing.
use Rattle.positions.proofs.paths.not_played.Goals as goal

pub returns : goal.returns
returns c = rw (← c.no_trail.ensures, ← c.no_position.ensures)
