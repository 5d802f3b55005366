-- The origin and the kind were asked (`short-named`).
-- Assumes nothing.
use Prim.Native.Nat.{◌+◌}
use native.Mathlib.Omega.{arith}
use mathlib.Core.Bool.{false≢true}
use borrow.Author.Tests.{eqb-false, not-true}
use Rattle.spell.specs.Tables.{kinds}
use Rattle.spell.specs.Spell.{number_spelled}
use Rattle.moves.proofs.Usually.{by_three, short-named}
use Rattle.moves.proofs.played.is_short.Goals as goal

pub returns-then-not-is_bracketed : goal.returns-then-not-is_bracketed
returns-then-not-is_bracketed c = λ e. absurd (false≢true e)

pub returns : goal.returns
returns c =
    let a = c.args in
    λ e. short-named a.s.now (λ i. omega (arith, c.shared_slice_known-1.given i)) a.at c.kind_of.result (eqb-false _ _ (not-true _ e)) c.requires
    (c.is_bracketed.ensures (c.if-not-is_bracketed.false))
    (by_three a.s.now (number_spelled kinds) (a.at + 6) (a.at + 7) (a.at + 8) _ (omega arith) (omega arith) c.kind_of.ensures)
