-- The tests are the definition's, in its order.
-- Assumes nothing.
use borrow.Author.Tests.{eq-eqb, le-leb, lt-leb, ne_eqb}
use Rattle.moves.specs.Failing.{move_line_fail}
use Rattle.moves.proofs.reasons.move_line_fails.Goals as goal

pub returns-then-s-c : goal.returns-then-s-c
unfolding move_line_fail
returns-then-s-c c = rw (le-leb _ _ c.if-s-c.true)

pub returns-then-peek-eq42 : goal.returns-then-peek-eq42
unfolding move_line_fail
returns-then-peek-eq42 c = rw (lt-leb _ _ c.if-s-c.false, ← c.peek.ensures, eq-eqb _ _ c.if-peek-eq42.true)

pub returns : goal.returns
unfolding move_line_fail
returns c = rw (lt-leb _ _ c.if-s-c.false, ← c.peek.ensures, ne_eqb _ _ c.if-peek-eq42.false, ← c.numbered_fails.ensures)
