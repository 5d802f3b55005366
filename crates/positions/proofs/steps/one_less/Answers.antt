-- The answers are those of the definition, test by test.
-- Assumes nothing.
use borrow.Author.Tests.{le-ltb, lt-ltb}
use Rattle.positions.specs.Steps.{one_less}
use Rattle.positions.proofs.steps.one_less.Goals as goal

pub returns-then-n-lt1 : goal.returns-then-n-lt1
unfolding one_less
returns-then-n-lt1 c = rw (← c.peek-n.ensures, lt-ltb _ _ c.if-n-lt1.true)

pub returns : goal.returns
unfolding one_less
returns c = rw (← c.peek-n.ensures, le-ltb _ _ c.if-n-lt1.false, ← c.with_number.ensures)
