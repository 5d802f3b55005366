-- The answers are those of the definition, test by test.
-- Assumes nothing.
use borrow.Author.Tests.{eq-eqb, le-leb, lt-leb, ne_eqb}
use Rattle.positions.specs.Steps.{verdict_of}
use Rattle.positions.proofs.steps.verdict_of.Goals as goal

pub returns-then-d-ge81 : goal.returns-then-d-ge81
unfolding verdict_of
returns-then-d-ge81 c = rw (← c.landing-d.ensures, le-leb _ _ c.if-d-ge81.true, ← c.missing.ensures)

pub returns-then-o-eq82 : goal.returns-then-o-eq82
unfolding verdict_of
returns-then-o-eq82 c = rw (← c.landing-d.ensures, lt-leb _ _ c.if-d-ge81.false, ← c.leaving-o.ensures, eq-eqb _ _ c.if-o-eq82.true) c.drop_verdict.ensures

pub returns : goal.returns
unfolding verdict_of
returns c = rw (← c.landing-d.ensures, lt-leb _ _ c.if-d-ge81.false, ← c.leaving-o.ensures, ne_eqb _ _ c.if-o-eq82.false) c.move_verdict.ensures
