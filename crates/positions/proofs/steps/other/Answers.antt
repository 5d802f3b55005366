-- The answers are those of the definition, test by test.
-- Assumes nothing.
use borrow.Author.Tests.{eq-eqb, ne_eqb}
use Rattle.positions.proofs.steps.other.Goals as goal

pub returns-then-turn-eq0 : goal.returns-then-turn-eq0
returns-then-turn-eq0 c = rw (eq-eqb _ _ c.if-turn-eq0.true)

pub returns-else-turn-eq0 : goal.returns-else-turn-eq0
returns-else-turn-eq0 c = rw (ne_eqb _ _ c.if-turn-eq0.false)
