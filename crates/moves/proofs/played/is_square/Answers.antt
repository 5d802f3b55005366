-- Each byte was asked in its turn, and they are a file and a rank (`square-aimed`).
-- Assumes nothing.
use Prim.Native.Nat.{◌+◌}
use native.Mathlib.Omega.{arith}
use mathlib.Core.Bool.{false≢true}
use borrow.Author.Tests.{eqb-false, not-true}
use Rattle.spell.specs.Tables.{numerals}
use Rattle.spell.specs.Spell.{number_spelled}
use Rattle.moves.proofs.Usually.{by_three, square_aimed}
use Rattle.moves.proofs.played.is_square.Goals as goal

pub returns-then-s-at : goal.returns-then-s-at
returns-then-s-at c = λ e. absurd (false≢true e)

pub returns-then-s-at-2 : goal.returns-then-s-at-2
returns-then-s-at-2 c = λ e. absurd (false≢true e)

pub returns-then-s-at-lt145 : goal.returns-then-s-at-lt145
returns-then-s-at-lt145 c = λ e. absurd (false≢true e)

pub returns-then-s-at-gt153 : goal.returns-then-s-at-gt153
returns-then-s-at-gt153 c = λ e. absurd (false≢true e)

pub returns : goal.returns
returns c =
    let a = c.args in
    λ e. square_aimed a.s.now (λ i. omega (arith, c.shared_slice_known-1.given i)) a.at c.numeral_of.result (eqb-false _ _ (not-true _ e)) c.requires
    c.if-s-at.false c.if-s-at-2.false c.if-s-at-lt145.false c.if-s-at-gt153.false
    (by_three a.s.now (number_spelled numerals) (a.at + 3) (a.at + 4) (a.at + 5) _ (omega arith) (omega arith) c.numeral_of.ensures)
