-- The cases of the definition; the digit of a square is one of the full-width ones, so nothing wraps.
-- Assumes nothing.
use Prim.Native.Nat.{◌+◌}
use native.Mathlib.Omega.{arith}
use borrow.Author.Tests.{eq-eqb, ne_eqb}
use Rattle.spell.specs.Tables.{numerals}
use Rattle.spell.specs.Spell.{number_spelled}
use Rattle.moves.specs.inner.Usuals.{aim_of}
use Rattle.moves.proofs.Usually.{by_three}
use Rattle.moves.proofs.played.usual_aim.Goals as goal

pub returns-then-s-at : goal.returns-then-s-at
unfolding aim_of
returns-then-s-at c = rw (eq-eqb _ _ c.if-s-at.true)

pub overflow_sub-result : goal.overflow_sub-result
overflow_sub-result c = c.requires.1.digit c.if-s-at.false

pub returns : goal.returns
unfolding aim_of
returns c = let a = c.args in rw (ne_eqb _ _ c.if-s-at.false, ← by_three a.s.now (number_spelled numerals) (a.at + 3) (a.at + 4) (a.at + 5) _ (omega arith) (omega arith) c.numeral_of.ensures)
