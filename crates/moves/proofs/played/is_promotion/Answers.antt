-- The three bytes, asked one after another (`stands-three`).
-- Assumes nothing.
use borrow.Author.Tests.{eq-eqb, ne_eqb}
use Rattle.moves.proofs.Usually.{stands_three}
use Rattle.moves.proofs.played.is_promotion.Goals as goal

pub returns-then-s-at : goal.returns-then-s-at
returns-then-s-at c = rw (stands_three _ 230 136 144 _ c.requires, ne_eqb _ _ c.if-s-at.true)

pub returns-then-s-at-2 : goal.returns-then-s-at-2
returns-then-s-at-2 c = rw (stands_three _ 230 136 144 _ c.requires, eq-eqb _ _ c.if-s-at.false, ne_eqb _ _ c.if-s-at-2.true)

pub returns : goal.returns
returns c = rw (stands_three _ 230 136 144 _ c.requires, eq-eqb _ _ c.if-s-at.false, eq-eqb _ _ c.if-s-at-2.false)
