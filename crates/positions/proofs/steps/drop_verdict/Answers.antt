-- The answers are those of the definition, test by test.
-- Assumes nothing.
use borrow.Author.Tests.{eq-eqb, ne_eqb}
use Rattle.positions.specs.Steps.{drop_verdict}
use Rattle.positions.proofs.steps.drop_verdict.Goals as goal

pub returns-then-mark-eq2 : goal.returns-then-mark-eq2
unfolding drop_verdict
returns-then-mark-eq2 c = rw (eq-eqb _ _ c.if-mark-eq2.true)

pub returns-then-not-in_hand : goal.returns-then-not-in_hand
unfolding drop_verdict
returns-then-not-in_hand c = rw (ne_eqb _ _ c.if-mark-eq2.false, ← c.in_hand.ensures, c.if-not-in_hand.true)

pub returns-then-peek-ne0 : goal.returns-then-peek-ne0
unfolding drop_verdict
returns-then-peek-ne0 c = rw (ne_eqb _ _ c.if-mark-eq2.false, ← c.in_hand.ensures, c.if-not-in_hand.false, ← c.peek.ensures, ne_eqb _ _ c.if-peek-ne0.true)

pub returns : goal.returns
unfolding drop_verdict
returns c = rw (ne_eqb _ _ c.if-mark-eq2.false, ← c.in_hand.ensures, c.if-not-in_hand.false, ← c.peek.ensures, eq-eqb _ _ c.if-peek-ne0.false)
