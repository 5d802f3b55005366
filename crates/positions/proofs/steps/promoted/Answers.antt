-- The answers are those of the definition, test by test.
-- Assumes nothing.
use Rattle.positions.specs.Steps.{promoted}
use Rattle.positions.proofs.steps.promoted.Goals as goal

pub returns : goal.returns
unfolding promoted
returns c = rw (← c.wide.ensures.0, ← c.peek.ensures)
