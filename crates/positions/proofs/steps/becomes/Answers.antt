-- The answers are those of the definition, test by test.
-- Assumes nothing.
use borrow.Author.Tests.{eq-eqb, ne_eqb}
use Rattle.positions.proofs.steps.becomes.Goals as goal

pub returns-then-mark-eq2 : goal.returns-then-mark-eq2
returns-then-mark-eq2 c = rw (eq-eqb _ _ c.if-mark-eq2.true, ← c.promoted.ensures)

pub returns-else-mark-eq2 : goal.returns-else-mark-eq2
returns-else-mark-eq2 c = rw (ne_eqb _ _ c.if-mark-eq2.false)
