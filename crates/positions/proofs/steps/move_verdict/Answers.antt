-- The answers are those of the definition, test by test.
-- Assumes nothing.
use borrow.Author.Tests.{eq-eqb, le-leb, lt-leb, ne_eqb}
use Rattle.positions.specs.Steps.{move_verdict}
use Rattle.positions.proofs.steps.move_verdict.Goals as goal

pub returns-then-o-ge81 : goal.returns-then-o-ge81
unfolding move_verdict
returns-then-o-ge81 c = rw (le-leb _ _ c.if-o-ge81.true)

pub returns-then-not-is_there : goal.returns-then-not-is_there
unfolding move_verdict
returns-then-not-is_there c = rw (lt-leb _ _ c.if-o-ge81.false, ← c.is_there.ensures, c.if-not-is_there.true)

pub returns-then-becomes-eq0 : goal.returns-then-becomes-eq0
unfolding move_verdict
returns-then-becomes-eq0 c = rw (lt-leb _ _ c.if-o-ge81.false, ← c.is_there.ensures, c.if-not-is_there.false, ← c.becomes.ensures, eq-eqb _ _ c.if-becomes-eq0.true)

pub returns : goal.returns
unfolding move_verdict
returns c = rw (lt-leb _ _ c.if-o-ge81.false, ← c.is_there.ensures, c.if-not-is_there.false, ← c.becomes.ensures, ne_eqb _ _ c.if-becomes-eq0.false, ← c.land_verdict.ensures)
