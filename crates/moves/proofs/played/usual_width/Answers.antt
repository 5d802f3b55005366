-- There is room for the longer form, and the parts were asked.
-- Assumes nothing.
use native.Mathlib.Omega.{arith}
use Rattle.moves.proofs.played.usual_width.Goals as goal

pub returns-then-s-lt16 : goal.returns-then-s-lt16
returns-then-s-lt16 c = λ h. absurd (omega arith)

pub returns-then-s-at : goal.returns-then-s-at
returns-then-s-at c = λ h. absurd (omega arith)

pub returns-then-not-is_target : goal.returns-then-not-is_target
returns-then-not-is_target c = λ h. absurd (omega arith)

pub returns-then-is_short : goal.returns-then-is_short
returns-then-is_short c =
    λ h. record {
      wide = omega arith;
      room = omega (arith, c.if-s-at.false, c.if-s-lt16.false);
      target = c.is_target.ensures (c.if-not-is_target.false);
      name = c.is_short.ensures c.if-is_short.true;
    }

pub returns-then-is_long : goal.returns-then-is_long
returns-then-is_long c =
    λ h. record {
      wide = omega arith;
      room = omega (arith, c.if-s-at.false, c.if-s-lt16.false);
      target = c.is_target.ensures (c.if-not-is_target.false);
      name = c.is_long.ensures c.if-is_long.true;
    }

pub returns-else-is_long : goal.returns-else-is_long
returns-else-is_long c = λ h. absurd (omega arith)
