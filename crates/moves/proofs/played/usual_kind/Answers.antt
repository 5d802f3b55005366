-- The cases of the definition.
-- Assumes nothing.
use Prim.Native.Nat.{◌+◌}
use native.Mathlib.Omega.{arith}
use mathlib.Core.List.{◌++◌}
use Rattle.spell.specs.Tables.{kinds}
use Rattle.spell.specs.Spell.{number_spelled}
use Rattle.spell.specs.Words.{promotes}
use Rattle.moves.specs.inner.Usuals.{kind_of}
use Rattle.moves.proofs.Usually.{by_three}
use Rattle.moves.proofs.played.usual_kind.Goals as goal

pub returns-then-is_promotion : goal.returns-then-is_promotion
unfolding kind_of
returns-then-is_promotion c = let a = c.args in rw (← c.is_promotion.ensures, c.if-is_promotion.true) (by_three a.s.now (λ t. number_spelled kinds (promotes ++ t)) (a.at + 9) (a.at + 10) (a.at + 11) _ (omega arith) (omega arith) c.promoted_of.ensures)

pub returns : goal.returns
unfolding kind_of
returns c = let a = c.args in rw (← c.is_promotion.ensures, c.if-is_promotion.false) (by_three a.s.now (number_spelled kinds) (a.at + 6) (a.at + 7) (a.at + 8) _ (omega arith) (omega arith) c.kind_of.ensures)
