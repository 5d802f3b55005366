-- Counts are looked at where there is a diagram, as the definition says.
-- Assumes nothing.
use borrow.Author.Tests.{eq-eqb, ne_eqb}
use Rattle.converter.specs.Show.{hands_obstacle}
use Rattle.converter.proofs.checks.hands_obstacle.Goals as goal

pub returns-then-p-eq0 : goal.returns-then-p-eq0
unfolding hands_obstacle
returns-then-p-eq0 c = rw (eq-eqb _ _ c.if-p-eq0.true)

pub returns : goal.returns
unfolding hands_obstacle
returns c = rw (ne_eqb _ _ c.if-p-eq0.false) c.hand_obstacle.ensures
