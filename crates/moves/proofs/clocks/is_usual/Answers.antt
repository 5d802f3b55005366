-- There is room, and both parts were asked.
-- Assumes nothing.
use native.Mathlib.Omega.{arith}
use mathlib.Core.Bool.{false≢true}
use Rattle.moves.proofs.clocks.is_usual.Goals as goal

pub returns-then-s-lt16 : goal.returns-then-s-lt16
returns-then-s-lt16 c = λ e. absurd (false≢true e)

pub returns-then-s-at : goal.returns-then-s-at
returns-then-s-at c = λ e. absurd (false≢true e)

pub returns-then-not-shows_now : goal.returns-then-not-shows_now
returns-then-not-shows_now c = λ e. absurd (false≢true e)

pub returns : goal.returns
returns c =
    λ e. record {
      room = omega (arith, c.if-s-at.false, c.if-s-lt16.false);
      now = c.shows_now.ensures (c.if-not-shows_now.false);
      total = c.shows_total.ensures e;
    }
