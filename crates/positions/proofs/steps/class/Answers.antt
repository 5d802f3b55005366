-- The answers are those of the definition, test by test.
-- Assumes nothing.
use Rattle.positions.specs.Steps.{class}
use Rattle.positions.proofs.steps.class.Goals as goal

pub returns : goal.returns
unfolding class
returns c = rw (← c.wide.ensures.0) c.peek.ensures
