-- The cases of the definition.
-- Assumes nothing.
use borrow.Author.Tests.{eq-eqb, ne_eqb}
use Rattle.moves.specs.inner.Usuals.{mark_of}
use Rattle.moves.proofs.played.usual_mark.Goals as goal

pub returns-then-width-eq13 : goal.returns-then-width-eq13
unfolding mark_of
returns-then-width-eq13 c = rw (eq-eqb _ _ c.if-width-eq13.true)

pub returns-then-is_promotion : goal.returns-then-is_promotion
unfolding mark_of
returns-then-is_promotion c = rw (ne_eqb _ _ c.if-width-eq13.false, ← c.is_promotion.ensures, c.if-is_promotion.true)

pub returns-else-is_promotion : goal.returns-else-is_promotion
unfolding mark_of
returns-else-is_promotion c = rw (ne_eqb _ _ c.if-width-eq13.false, ← c.is_promotion.ensures, c.if-is_promotion.false)
