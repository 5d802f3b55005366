-- The tests are the definition's.
-- Assumes nothing.
use borrow.Author.Rules.{rules}
use Rattle.filling.specs.Filling.{are_small}
use Rattle.filling.proofs.opens.are_small.Goals as goal

pub returns-then-is_small-4 : goal.returns-then-is_small-4
unfolding are_small
returns-then-is_small-4 c = search rules

pub returns-else-is_small-4 : goal.returns-else-is_small-4
unfolding are_small
returns-else-is_small-4 c = search rules
