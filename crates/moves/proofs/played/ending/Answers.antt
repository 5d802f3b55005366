-- The answers of the steps, handed on as the definition hands them on.
-- Assumes nothing.
use Rattle.moves.proofs.played.ending.Goals as goal

pub returns-in_err-n : goal.returns-in_err-n
returns-in_err-n c = rw (← c.special.ensures, c.in_err-n.was) c.from_residual.ensures

pub returns : goal.returns
returns c = rw (← c.special.ensures, c.in_ok-n.was, ← c.from.ensures)
