-- The answers are those of the definition, test by test.
-- Assumes nothing.
use borrow.Author.Rules.{rules}
use Rattle.positions.specs.Steps.{is_there}
use Rattle.positions.proofs.steps.is_there.Goals as goal

pub returns-then-owned : goal.returns-then-owned
unfolding is_there
returns-then-owned c = search rules

pub returns-else-owned : goal.returns-else-owned
unfolding is_there
returns-else-owned c = search rules
