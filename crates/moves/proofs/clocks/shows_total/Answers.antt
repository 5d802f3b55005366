-- Each byte was asked in its turn.
-- Assumes nothing.
use mathlib.Core.Bool.{false≢true}
use borrow.Author.Tests.{eqb-true}
use Rattle.moves.proofs.clocks.shows_total.Goals as goal

pub returns-then-not-two : goal.returns-then-not-two
returns-then-not-two c = λ e. absurd (false≢true e)

pub returns-then-s-at-ne58 : goal.returns-then-s-at-ne58
returns-then-s-at-ne58 c = λ e. absurd (false≢true e)

pub returns-then-not-two-2 : goal.returns-then-not-two-2
returns-then-not-two-2 c = λ e. absurd (false≢true e)

pub returns-then-s-at-ne58-2 : goal.returns-then-s-at-ne58-2
returns-then-s-at-ne58-2 c = λ e. absurd (false≢true e)

pub returns-then-not-two-3 : goal.returns-then-not-two-3
returns-then-not-two-3 c = λ e. absurd (false≢true e)

pub returns : goal.returns
returns c =
    λ e. record {
      hour = c.two.ensures (c.if-not-two.false);
      colon = c.if-s-at-ne58.false;
      minute = c.two-2.ensures (c.if-not-two-2.false);
      colon₂ = c.if-s-at-ne58-2.false;
      second = c.two-3.ensures (c.if-not-two-3.false);
      closes = eqb-true _ _ e;
    }
