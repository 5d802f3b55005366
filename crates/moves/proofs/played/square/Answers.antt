-- The answers of the steps, handed on as the definition hands them on.
-- Assumes nothing.
use Rattle.moves.specs.Moves.{square_at}
use Rattle.moves.proofs.played.square.Goals as goal

pub returns-in_err-x : goal.returns-in_err-x
unfolding square_at
returns-in_err-x c = rw (← c.file.ensures, c.in_err-x.was) c.from_residual.ensures

pub returns-in_err-y : goal.returns-in_err-y
unfolding square_at
returns-in_err-y c = rw (← c.file.ensures, c.in_ok-x.was, ← c.numeral.ensures, c.in_err-y.was) c.from_residual-in_err-y.ensures

pub returns : goal.returns
unfolding square_at
returns c = rw (← c.file.ensures, c.in_ok-x.was, ← c.numeral.ensures, c.in_ok-y.was)
