-- The answers of the steps, handed on: why there is no number is why there is no figure (`error_kept`).
-- Assumes nothing.
use Rattle.text.proofs.Answers.{error_of}
use Rattle.moves.specs.Moves.{figure_at}
use Rattle.moves.proofs.Figures.{error_kept}
use Rattle.moves.proofs.clocks.figure.Goals as goal

pub returns-in_err-n : goal.returns-in_err-n
unfolding figure_at
returns-in_err-n c = rw (error_of c.from_residual.ensures.1, ← c.digits.ensures) (error_kept _ c.in_err-n.was)

pub returns-in_default : goal.returns-in_default
unfolding figure_at
returns-in_default c = rw (← c.digits.ensures, c.in_ok-n.was, ← c.tag.ensures, c.in_default.is)

pub returns : goal.returns
unfolding figure_at
returns c = rw (← c.digits.ensures, c.in_ok-n.was, ← c.tag.ensures, c.in-Some.is)
