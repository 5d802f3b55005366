-- The answers are those of the definition, test by test.
-- Assumes nothing.
use borrow.Author.Rules.{rules}
use Rattle.positions.specs.Paths.{has_start}
use Rattle.positions.proofs.starts.has_start.Goals as goal

pub returns-then-p-ne0 : goal.returns-then-p-ne0
unfolding has_start
returns-then-p-ne0 c = search rules

pub returns-else-p-ne0 : goal.returns-else-p-ne0
unfolding has_start
returns-else-p-ne0 c = search rules
