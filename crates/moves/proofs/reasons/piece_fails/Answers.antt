-- The answers of the steps, handed on as the definition hands them on.
-- Assumes nothing.
use Rattle.moves.specs.Failing.{piece_fail}
use Rattle.moves.proofs.reasons.piece_fails.Goals as goal

pub returns-in_default : goal.returns-in_default
unfolding piece_fail
returns-in_default c = rw (← c.kind.ensures, c.in_default.is)

pub returns : goal.returns
unfolding piece_fail
returns c = rw (← c.kind.ensures, c.in-Some.is, ← c.promote.ensures, ← c.move_from_fails.ensures)
