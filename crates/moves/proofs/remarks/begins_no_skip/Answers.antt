-- The tests are the definition's, in its order.
-- Assumes nothing.
use borrow.Author.Tests.{eq-eqb, ne_eqb}
use Rattle.moves.specs.Moves.{begins_no_skip}
use Rattle.moves.proofs.remarks.begins_no_skip.Goals as goal

pub returns-then-b-eq32 : goal.returns-then-b-eq32
unfolding begins_no_skip
returns-then-b-eq32 c = rw (← c.peek-b.ensures, eq-eqb _ _ c.if-b-eq32.true)

pub returns-then-b-eq42 : goal.returns-then-b-eq42
unfolding begins_no_skip
returns-then-b-eq42 c = rw (← c.peek-b.ensures, ne_eqb _ _ c.if-b-eq32.false, eq-eqb _ _ c.if-b-eq42.true)

pub returns-then-is_digit : goal.returns-then-is_digit
unfolding begins_no_skip
returns-then-is_digit c = rw (← c.peek-b.ensures, ne_eqb _ _ c.if-b-eq32.false, ne_eqb _ _ c.if-b-eq42.false, ← c.is_digit.ensures, c.if-is_digit.true)

pub returns-then-stands : goal.returns-then-stands
unfolding begins_no_skip
returns-then-stands c = rw (← c.peek-b.ensures, ne_eqb _ _ c.if-b-eq32.false, ne_eqb _ _ c.if-b-eq42.false, ← c.is_digit.ensures, c.if-is_digit.false, ← c.stands.ensures, c.if-stands.true)

pub returns : goal.returns
unfolding begins_no_skip
returns c = rw (← c.peek-b.ensures, ne_eqb _ _ c.if-b-eq32.false, ne_eqb _ _ c.if-b-eq42.false, ← c.is_digit.ensures, c.if-is_digit.false, ← c.stands.ensures, c.if-stands.false, ← c.stands-2.ensures)
