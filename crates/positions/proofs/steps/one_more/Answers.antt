-- The answers are those of the definition, test by test.
-- Assumes nothing.
use borrow.Author.Tests.{le-ltb, lt-ltb}
use Rattle.positions.specs.Steps.{one_more}
use Rattle.positions.proofs.steps.one_more.Goals as goal

pub returns-then-n-gt254 : goal.returns-then-n-gt254
unfolding one_more
returns-then-n-gt254 c = rw (← c.peek-n.ensures, lt-ltb _ _ c.if-n-gt254.true)

pub returns : goal.returns
unfolding one_more
returns c = rw (← c.peek-n.ensures, le-ltb _ _ c.if-n-gt254.false, ← c.with_number.ensures)
