-- The answers of the steps, handed on as the definition hands them on.
-- Assumes nothing.
use Rattle.kakinoki.specs.Informations.{hand_at}
use Rattle.kakinoki.proofs.hands.hand.Goals as goal

pub returns-in_default : goal.returns-in_default
unfolding hand_at
returns-in_default c = rw (← c.tag.ensures, c.in_default.is, ← c.pieces.ensures)

pub returns : goal.returns
unfolding hand_at
returns c = rw (← c.tag.ensures, c.in-Some.is)
