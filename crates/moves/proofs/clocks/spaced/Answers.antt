-- The answers of the steps, handed on as the definition hands them on.
-- Assumes nothing.
use Rattle.moves.specs.Moves.{spaced_at}
use Rattle.moves.proofs.clocks.spaced.Goals as goal

pub returns-in_err-k : goal.returns-in_err-k
unfolding spaced_at
returns-in_err-k c = rw (← c.blanks.ensures, ← c.clock.ensures, c.in_err-k.was) c.from_residual.ensures

pub returns : goal.returns
unfolding spaced_at
returns c = rw (← c.blanks.ensures, ← c.clock.ensures, c.in_ok-k.was, ← c.blanks-2.ensures)
