-- The answers are those of the definition, test by test.
-- Assumes nothing.
use borrow.Author.Rules.{rules}
use Rattle.positions.specs.Paths.{start_on}
use Rattle.positions.proofs.starts.start_on.Goals as goal

pub returns-then-p-eq0 : goal.returns-then-p-eq0
unfolding start_on
returns-then-p-eq0 c = search rules

pub returns-else-p-eq0 : goal.returns-else-p-eq0
unfolding start_on
returns-else-p-eq0 c = search rules
