-- The answers are those of the definition, test by test.
-- Assumes nothing.
use Rattle.positions.specs.Steps.{missing}
use Rattle.positions.proofs.steps.missing.Goals as goal

pub returns-in-Same : goal.returns-in-Same
unfolding missing
returns-in-Same c = rw c.in-Same.is

pub returns-in-Square : goal.returns-in-Square
unfolding missing
returns-in-Square c = rw c.in-Square.is
