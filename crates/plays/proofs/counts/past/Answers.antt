-- Where there is no entry the place before is answered.
-- Assumes nothing.
use borrow.Author.Tests.{eq-eqb, ne_eqb}
use Rattle.plays.proofs.counts.past.Goals as goal

pub returns-then-entries-eq0 : goal.returns-then-entries-eq0
returns-then-entries-eq0 c = rw (eq-eqb _ _ c.if-entries-eq0.true)

pub returns : goal.returns
returns c = rw (ne_eqb _ _ c.if-entries-eq0.false) c.skipped.ensures
