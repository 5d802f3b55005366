-- What is taken is one more in hand; the rest is as the definition says it.
-- Assumes nothing.
use borrow.Author.Rules.{rules}
use Rattle.positions.specs.Steps.{moved}
use Rattle.positions.proofs.steps.moved.Goals as goal

pub returns : goal.returns
unfolding moved
returns c = rw (← c.peek-c.ensures, ← c.becomes.ensures, ← c.piece_of-v.ensures, ← c.with_number.ensures, ← c.with_number-landed.ensures, ← c.other.ensures) (search rules)
