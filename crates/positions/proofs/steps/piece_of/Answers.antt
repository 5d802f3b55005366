-- The answers are those of the definition, test by test.
-- Assumes nothing.
use borrow.Author.Rules.{rules}
use Rattle.positions.specs.Steps.{piece_of}
use Rattle.positions.proofs.steps.piece_of.Goals as goal

pub returns-then-turn-eq0 : goal.returns-then-turn-eq0
unfolding piece_of
returns-then-turn-eq0 c = search rules

pub returns-else-turn-eq0 : goal.returns-else-turn-eq0
unfolding piece_of
returns-else-turn-eq0 c = search rules
