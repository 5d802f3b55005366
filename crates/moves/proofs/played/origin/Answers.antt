-- A number up to 255 is a byte, and so are its tens and ones.
-- Assumes nothing.
use native.Mathlib.Omega.{arith}
use mathlib.Core.Path.{sym, ◌∙◌}
use Rattle.moves.proofs.Figures.{value_is}
use Rattle.text.proofs.Answers.{digits_fit}
use Rattle.moves.proofs.played.origin.Goals as goal

pub overflow_cast-result : goal.overflow_cast-result
overflow_cast-result c = omega (arith, (value_is (digits_fit 255 _ _) (sym c.digits.ensures ∙ c.in_ok-n.was)).small)
