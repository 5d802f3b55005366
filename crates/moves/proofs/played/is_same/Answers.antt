-- Each byte was asked in its turn, and they are 同 and a wide space (`same-aimed`).
-- Assumes nothing.
use mathlib.Core.Bool.{false≢true}
use borrow.Author.Tests.{eqb-true}
use Rattle.moves.proofs.Usually.{same_aimed}
use Rattle.moves.proofs.played.is_same.Goals as goal

pub returns-then-s-at : goal.returns-then-s-at
returns-then-s-at c = λ e. absurd (false≢true e)

pub returns-then-s-at-2 : goal.returns-then-s-at-2
returns-then-s-at-2 c = λ e. absurd (false≢true e)

pub returns-then-s-at-3 : goal.returns-then-s-at-3
returns-then-s-at-3 c = λ e. absurd (false≢true e)

pub returns-then-s-at-4 : goal.returns-then-s-at-4
returns-then-s-at-4 c = λ e. absurd (false≢true e)

pub returns : goal.returns
returns c = λ e. same_aimed _ _ c.requires.0 c.requires.1 c.if-s-at.false c.if-s-at-2.false c.if-s-at-3.false c.if-s-at-4.false (eqb-true _ _ e)
