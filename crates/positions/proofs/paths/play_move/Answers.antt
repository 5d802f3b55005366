-- The answers are those of the definition, test by test.
-- Assumes nothing.
use Rattle.positions.proofs.paths.play_move.Goals as goal

pub returns : goal.returns
returns c = rw (← c.play_step-s.ensures)
