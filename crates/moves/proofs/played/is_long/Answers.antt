-- The origin, 成 and the kind were asked (`long-named`, `marked-named`).
-- Assumes nothing.
use Prim.Native.Nat.{◌+◌}
use native.Mathlib.Omega.{arith}
use mathlib.Core.Path.{sym, ◌∙◌}
use mathlib.Core.Bool.{false≢true}
use mathlib.Core.List.{◌++◌}
use borrow.Author.Tests.{eqb-false, not-true}
use Rattle.spell.specs.Tables.{kinds}
use Rattle.spell.specs.Spell.{number_spelled}
use Rattle.spell.specs.Words.{promotes}
use Rattle.moves.proofs.Usually.{by_three, long-named, marked-named}
use Rattle.moves.proofs.played.is_long.Goals as goal

pub returns-then-not-is_bracketed : goal.returns-then-not-is_bracketed
returns-then-not-is_bracketed c = λ e. absurd (false≢true e)

pub returns-then-is_promotion : goal.returns-then-is_promotion
returns-then-is_promotion c =
    let a = c.args in
    λ e. long-named a.s.now (λ i. omega (arith, c.shared_slice_known-1.given i)) a.at c.promoted_of.result (eqb-false _ _ (not-true _ e)) c.requires
    (c.is_bracketed.ensures (c.if-not-is_bracketed.false))
    (sym c.is_promotion.ensures ∙ c.if-is_promotion.true)
    (by_three a.s.now (λ t. number_spelled kinds (promotes ++ t)) (a.at + 9) (a.at + 10) (a.at + 11) _ (omega arith) (omega arith) c.promoted_of.ensures)

pub returns-then-not-is_promotion : goal.returns-then-not-is_promotion
returns-then-not-is_promotion c = λ e. absurd (false≢true e)

pub returns : goal.returns
returns c =
    let a = c.args in
    λ e. marked-named a.s.now (λ i. omega (arith, c.shared_slice_known-1.given i)) a.at c.kind_of.result (eqb-false _ _ (not-true _ e)) c.requires
    (c.is_bracketed.ensures (c.if-not-is_bracketed.false))
    (sym c.is_promotion.ensures ∙ c.if-is_promotion.false)
    (sym c.is_promotion-2.ensures ∙ c.if-not-is_promotion.false)
    (by_three a.s.now (number_spelled kinds) (a.at + 6) (a.at + 7) (a.at + 8) _ (omega arith) (omega arith) c.kind_of.ensures)
