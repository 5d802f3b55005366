-- The answers of the steps, handed on as the definition hands them on.
-- Assumes nothing.
use Rattle.kakinoki.specs.Informations.{information_at}
use Rattle.kakinoki.proofs.infos.information.Goals as goal

pub returns-in_default-turn_line : goal.returns-in_default-turn_line
unfolding information_at
returns-in_default-turn_line c = rw (← c.preset_line.ensures, c.in_default.is, ← c.turn_line.ensures, c.in_default-turn_line.is, ← c.hands_or_keyed.ensures)

pub returns-in_default : goal.returns-in_default
unfolding information_at
returns-in_default c = rw (← c.preset_line.ensures, c.in_default.is, ← c.turn_line.ensures, c.in-Some-turn_line.is, ← c.handless.ensures)

pub returns : goal.returns
unfolding information_at
returns c = rw (← c.preset_line.ensures, c.in-Some.is, ← c.handless-2.ensures)
