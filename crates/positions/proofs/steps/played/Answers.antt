-- The answers are those of the definition, test by test.
-- Assumes nothing.
use borrow.Author.Tests.{eq-eqb, ne_eqb}
use Rattle.positions.specs.Steps.{played}
use Rattle.positions.proofs.steps.played.Goals as goal

pub returns-then-o-eq82 : goal.returns-then-o-eq82
unfolding played
returns-then-o-eq82 c = rw (← c.landing-d.ensures, ← c.leaving-o.ensures, eq-eqb _ _ c.if-o-eq82.true, ← c.dropped.ensures)

pub returns : goal.returns
unfolding played
returns c = rw (← c.landing-d.ensures, ← c.leaving-o.ensures, ne_eqb _ _ c.if-o-eq82.false, ← c.moved.ensures)
