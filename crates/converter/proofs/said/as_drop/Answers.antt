-- An origin of (0,0) is the one that is not known; any other stays.
-- Assumes nothing.
use borrow.Author.Tests.{ne_eqb}
use Rattle.converter.specs.Said.{as_drop}
use Rattle.converter.proofs.said.as_drop.Goals as goal
use Rattle.converter.proofs.said.as_drop.Goals.{else-x-eq0-via-then-x-eq0+else-y-eq0, else-x-eq0-via-else-x-eq0}

pub returns-then-y-eq0 : goal.returns-then-y-eq0
unfolding as_drop
returns-then-y-eq0 c = rw (c.in-Some.is, c.if-x-eq0.true, c.if-y-eq0.true)

pub returns-in-None : goal.returns-in-None
unfolding as_drop
returns-in-None c = rw c.in-None.is

pub returns-else-x-eq0 : goal.returns-else-x-eq0
unfolding as_drop
returns-else-x-eq0 c =
    elim c.else-x-eq0.branch [
      | else-x-eq0-via-then-x-eq0+else-y-eq0 w ↦ rw (c.in-Some.is, w.if-x-eq0.true, ne_eqb _ _ w.if-y-eq0.false)
      | else-x-eq0-via-else-x-eq0 w ↦ rw (c.in-Some.is, ne_eqb _ _ w.if-x-eq0.false)
    ]
