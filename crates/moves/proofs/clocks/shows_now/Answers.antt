-- Each byte was asked in its turn.
-- Assumes nothing.
use mathlib.Core.Path.{sym, ◌∙◌}
use mathlib.Core.Bool.{false≢true}
use borrow.Author.Tests.{eqb-true}
use Rattle.moves.proofs.clocks.shows_now.Goals as goal

pub returns-then-s-at-ne40 : goal.returns-then-s-at-ne40
returns-then-s-at-ne40 c = λ e. absurd (false≢true e)

pub returns-then-s-at-ne32 : goal.returns-then-s-at-ne32
returns-then-s-at-ne32 c = λ e. absurd (false≢true e)

pub returns-then-not-is_digit : goal.returns-then-not-is_digit
returns-then-not-is_digit c = λ e. absurd (false≢true e)

pub returns-then-s-at-ne58 : goal.returns-then-s-at-ne58
returns-then-s-at-ne58 c = λ e. absurd (false≢true e)

pub returns-then-not-two : goal.returns-then-not-two
returns-then-not-two c = λ e. absurd (false≢true e)

pub returns : goal.returns
returns c =
    λ e. record {
      opens = c.if-s-at-ne40.false;
      blank = c.if-s-at-ne32.false;
      minute = sym c.is_digit.ensures ∙ c.if-not-is_digit.false;
      colon = c.if-s-at-ne58.false;
      second = c.two.ensures (c.if-not-two.false);
      slash = eqb-true _ _ e;
    }
