-- The two tests are the definition's, in its order.
-- Assumes nothing.
use borrow.Author.Tests.{eq-eqb, ne_eqb}
use Rattle.stops.specs.Stopping.{seeking_at}
use Rattle.stops.proofs.tries.seeking_at.Goals as goal

pub returns-then-p-begin : goal.returns-then-p-begin
unfolding seeking_at
returns-then-p-begin c = rw (eq-eqb _ _ c.if-p-begin.true)

pub returns-then-end-p : goal.returns-then-end-p
unfolding seeking_at
returns-then-end-p c = rw (ne_eqb _ _ c.if-p-begin.false, eq-eqb _ _ c.if-end-p.true)

pub returns : goal.returns
unfolding seeking_at
returns c = rw (ne_eqb _ _ c.if-p-begin.false, ne_eqb _ _ c.if-end-p.false)
