-- The answers of the steps, handed on as a clock goes in one pass (`clock-is`); each figure is at most 255 (`Figures`), so it is a byte.
-- Assumes nothing.
use native.Mathlib.Omega.{arith}
use mathlib.Core.Path.{sym, ◌∙◌}
use Rattle.text.proofs.Answers.{number_else, digits_fit}
use Rattle.moves.proofs.Figures.{value_is, figure_fits}
use Rattle.moves.proofs.Shortcuts.{clock_is}
use Rattle.moves.proofs.clocks.clock.Goals as goal

pub returns-in_default : goal.returns-in_default
returns-in_default c = rw (clock_is, ← c.figure.ensures) (sym (number_else _ _ c.in_default.is))

pub returns-in_default-digits : goal.returns-in_default-digits
returns-in_default-digits c = rw (clock_is, ← c.figure.ensures, c.in-Ok.is, ← c.digits.ensures) (sym (number_else _ _ c.in_default-digits.is))

pub overflow_cast-result : goal.overflow_cast-result
overflow_cast-result c = omega (arith, (value_is (figure_fits _ _) (sym c.figure.ensures ∙ c.in-Ok.is)).small)

pub overflow_cast-result-in_default-tag : goal.overflow_cast-result-in_default-tag
overflow_cast-result-in_default-tag c = omega (arith, (value_is (digits_fit 255 _ _) (sym c.digits.ensures ∙ c.in-Ok-digits.is)).small)

pub returns-in_default-tag : goal.returns-in_default-tag
returns-in_default-tag c = rw (clock_is, ← c.figure.ensures, c.in-Ok.is, ← c.digits.ensures, c.in-Ok-digits.is, ← c.tag.ensures, c.in_default-tag.is)

pub overflow_cast-result-in_default-digits-2 : goal.overflow_cast-result-in_default-digits-2
overflow_cast-result-in_default-digits-2 c = omega (arith, (value_is (figure_fits _ _) (sym c.figure.ensures ∙ c.in-Ok.is)).small)

pub overflow_cast-result-in_default-digits-2-2 : goal.overflow_cast-result-in_default-digits-2-2
overflow_cast-result-in_default-digits-2-2 c = omega (arith, (value_is (digits_fit 255 _ _) (sym c.digits.ensures ∙ c.in-Ok-digits.is)).small)

pub returns-in_default-digits-2 : goal.returns-in_default-digits-2
returns-in_default-digits-2 c = rw (clock_is, ← c.figure.ensures, c.in-Ok.is, ← c.digits.ensures, c.in-Ok-digits.is, ← c.tag.ensures, c.in-Some.is, ← c.digits-2.ensures) (sym (number_else _ _ c.in_default-digits-2.is))

pub overflow_cast-result-2 : goal.overflow_cast-result-2
overflow_cast-result-2 c = omega (arith, (value_is (figure_fits _ _) (sym c.figure.ensures ∙ c.in-Ok.is)).small)

pub overflow_cast-result-3 : goal.overflow_cast-result-3
overflow_cast-result-3 c = omega (arith, (value_is (digits_fit 255 _ _) (sym c.digits.ensures ∙ c.in-Ok-digits.is)).small)

pub overflow_cast-result-4 : goal.overflow_cast-result-4
overflow_cast-result-4 c = omega (arith, (value_is (digits_fit 255 _ _) (sym c.digits-2.ensures ∙ c.in-Ok-digits-2.is)).small)

pub returns : goal.returns
returns c = rw (clock_is, ← c.figure.ensures, c.in-Ok.is, ← c.digits.ensures, c.in-Ok-digits.is, ← c.tag.ensures, c.in-Some.is, ← c.digits-2.ensures, c.in-Ok-digits-2.is)
