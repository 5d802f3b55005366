-- The answers are those of the definition, test by test.
-- Assumes nothing.
use borrow.Author.Tests.{lt-ltb, le-ltb, eq-eqb, ne_eqb}
use Rattle.positions.specs.Steps.{land_verdict}
use Rattle.positions.proofs.steps.land_verdict.Goals as goal

pub returns-then-c-eq0 : goal.returns-then-c-eq0
unfolding land_verdict
returns-then-c-eq0 c = rw (← c.peek-c.ensures, eq-eqb _ _ c.if-c-eq0.true)

pub returns-then-owned : goal.returns-then-owned
unfolding land_verdict
returns-then-owned c = rw (← c.peek-c.ensures, ne_eqb _ _ c.if-c-eq0.false, ← c.owned.ensures, c.if-owned.true)

pub returns-then-c-eq8 : goal.returns-then-c-eq8
unfolding land_verdict
returns-then-c-eq8 c = rw (← c.peek-c.ensures, ne_eqb _ _ c.if-c-eq0.false, ← c.owned.ensures, c.if-owned.false, eq-eqb _ _ c.if-c-eq8.true)

pub returns-then-peek-gt254 : goal.returns-then-peek-gt254
unfolding land_verdict
returns-then-peek-gt254 c = rw (← c.peek-c.ensures, ne_eqb _ _ c.if-c-eq0.false, ← c.owned.ensures, c.if-owned.false, ne_eqb _ _ c.if-c-eq8.false, ← c.hand_place.ensures, ← c.peek.ensures, lt-ltb _ _ c.if-peek-gt254.true)

pub returns : goal.returns
unfolding land_verdict
returns c = rw (← c.peek-c.ensures, ne_eqb _ _ c.if-c-eq0.false, ← c.owned.ensures, c.if-owned.false, ne_eqb _ _ c.if-c-eq8.false, ← c.hand_place.ensures, ← c.peek.ensures, le-ltb _ _ c.if-peek-gt254.false)
