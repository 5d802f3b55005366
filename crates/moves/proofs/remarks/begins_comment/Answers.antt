-- The tests are the definition's, in its order.
-- Assumes nothing.
use borrow.Author.Tests.{eq-eqb, ne_eqb}
use Rattle.moves.specs.Moves.{begins_comment}
use Rattle.moves.proofs.remarks.begins_comment.Goals as goal

pub returns-then-b-eq42 : goal.returns-then-b-eq42
unfolding begins_comment
returns-then-b-eq42 c = rw (← c.peek-b.ensures, eq-eqb _ _ c.if-b-eq42.true)

pub returns : goal.returns
unfolding begins_comment
returns c = rw (← c.peek-b.ensures, ne_eqb _ _ c.if-b-eq42.false)
