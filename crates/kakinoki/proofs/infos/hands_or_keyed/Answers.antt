-- A hand line, one that cannot be read, and no hand line: each arm is the definition's case.
-- Assumes nothing.
use Rattle.kakinoki.specs.Informations.{hands_or_keyed_at}
use Rattle.kakinoki.proofs.infos.hands_or_keyed.Goals as goal

pub returns-in-By : goal.returns-in-By
unfolding hands_or_keyed_at
returns-in-By c = rw (← c.hand_line-line.ensures, c.in-By.is)

pub returns-in-Unreadable : goal.returns-in-Unreadable
unfolding hands_or_keyed_at
returns-in-Unreadable c = rw (← c.hand_line-line.ensures, c.in-Unreadable.is, ← c.handless.ensures)

pub returns-in-NoHand : goal.returns-in-NoHand
unfolding hands_or_keyed_at
returns-in-NoHand c = rw (← c.hand_line-line.ensures, c.in-NoHand.is, ← c.keyed.ensures)
