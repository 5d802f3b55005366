-- The answers are those of the definition, test by test.
-- Assumes nothing.
use Rattle.positions.specs.Steps.{landing}
use Rattle.positions.proofs.steps.landing.Goals as goal

pub returns-in-Same : goal.returns-in-Same
unfolding landing
returns-in-Same c = rw c.in-Same.is

pub returns-in-Square : goal.returns-in-Square
unfolding landing
returns-in-Square c = rw (c.in-Square.is, ← c.cell_place.ensures)
