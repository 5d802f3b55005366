-- The answers are those of the definition, test by test.
-- Assumes nothing.
use Rattle.positions.specs.Steps.{dropped}
use Rattle.positions.proofs.steps.dropped.Goals as goal

pub returns : goal.returns
unfolding dropped
returns c = rw (← c.other.ensures, ← c.piece_of.ensures, ← c.with_number.ensures, ← c.hand_place.ensures, ← c.one_less.ensures)
