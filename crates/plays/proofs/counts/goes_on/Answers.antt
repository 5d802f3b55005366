-- Any line, or one whose number is the next.
-- Assumes nothing.
use Rattle.plays.specs.inner.Runs.{goes_on}
use Rattle.plays.proofs.counts.goes_on.Goals as goal

pub returns-then-any : goal.returns-then-any
unfolding goes_on
returns-then-any c = rw c.if-any.true

pub returns : goal.returns
unfolding goes_on
returns c = rw (c.if-any.false, ← c.ply.ensures, ← c.is_next.ensures)
