-- The answers of the steps, handed on as the definition hands them on.
-- Assumes nothing.
use Rattle.moves.specs.Moves.{move_from_at}
use Rattle.moves.proofs.played.move_from.Goals as goal

pub returns-in_default : goal.returns-in_default
unfolding move_from_at
returns-in_default c = rw (← c.tag.ensures, c.in_default.is, ← c.origin.ensures)

pub returns : goal.returns
unfolding move_from_at
returns c = rw (← c.tag.ensures, c.in-Some.is)
