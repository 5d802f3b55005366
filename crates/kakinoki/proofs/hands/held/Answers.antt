-- The answers of the steps, handed on as the definition hands them on.
-- Assumes nothing.
use Rattle.kakinoki.specs.Informations.{held_at}
use Rattle.kakinoki.proofs.hands.held.Goals as goal

pub returns-in_default : goal.returns-in_default
unfolding held_at
returns-in_default c = rw (← c.hand-hand.ensures, ← c.padded_end.ensures, c.in_default.is)

pub returns : goal.returns
unfolding held_at
returns c = rw (← c.hand-hand.ensures, ← c.padded_end.ensures, c.in-Some.is)
