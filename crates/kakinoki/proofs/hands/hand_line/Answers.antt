-- The answers of the steps, handed on as the definition hands them on.
-- Assumes nothing.
use Rattle.kakinoki.specs.Informations.{hand_line_at}
use Rattle.kakinoki.proofs.hands.hand_line.Goals as goal

pub returns-in_default : goal.returns-in_default
unfolding hand_line_at
returns-in_default c = rw (← c.side.ensures, c.in_default.is)

pub returns-in_default-tag : goal.returns-in_default-tag
unfolding hand_line_at
returns-in_default-tag c = rw (← c.side.ensures, c.in-Some.is, ← c.tag.ensures, c.in_default-tag.is)

pub returns : goal.returns
unfolding hand_line_at
returns c = rw (← c.side.ensures, c.in-Some.is, ← c.tag.ensures, c.in-Some-tag.is, ← c.held.ensures)
