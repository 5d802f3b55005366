-- Both bytes were asked.
-- Assumes nothing.
use mathlib.Core.Path.{sym, ◌∙◌}
use mathlib.Core.Bool.{false≢true}
use Rattle.moves.proofs.clocks.two.Goals as goal

pub returns-then-not-is_digit : goal.returns-then-not-is_digit
returns-then-not-is_digit c = λ e. absurd (false≢true e)

pub returns : goal.returns
returns c = λ e. record { tens = sym c.is_digit.ensures ∙ c.if-not-is_digit.false; ones = sym c.is_digit-2.ensures ∙ e }
