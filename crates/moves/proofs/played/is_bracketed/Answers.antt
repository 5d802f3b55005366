-- Each byte was asked in its turn.
-- Assumes nothing.
use mathlib.Core.Path.{sym, ◌∙◌}
use mathlib.Core.Bool.{false≢true}
use borrow.Author.Tests.{eqb-true}
use Rattle.moves.proofs.played.is_bracketed.Goals as goal

pub returns-then-s-at-ne40 : goal.returns-then-s-at-ne40
returns-then-s-at-ne40 c = λ e. absurd (false≢true e)

pub returns-then-not-is_digit : goal.returns-then-not-is_digit
returns-then-not-is_digit c = λ e. absurd (false≢true e)

pub returns-then-not-is_digit-2 : goal.returns-then-not-is_digit-2
returns-then-not-is_digit-2 c = λ e. absurd (false≢true e)

pub returns : goal.returns
returns c =
    λ e. record {
      opens = c.if-s-at-ne40.false;
      tens = sym c.is_digit.ensures ∙ c.if-not-is_digit.false;
      ones = sym c.is_digit-2.ensures ∙ c.if-not-is_digit-2.false;
      closes = eqb-true _ _ e;
    }
