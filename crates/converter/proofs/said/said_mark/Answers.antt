-- Each arm is that of `said_mark`.
-- Assumes nothing.
use mathlib.Core.Logic.{inl, inr}
use Rattle.converter.specs.Said.{said_mark}
use borrow.Author.Tests.{ne_eqb}
use Rattle.converter.proofs.said.said_mark.Goals as goal

pub returns-then-promote-eq1 : goal.returns-then-promote-eq1
unfolding said_mark
returns-then-promote-eq1 c = rw (c.in-Plain.is, c.if-promote-eq1.true)

pub returns-else-promote-eq1 : goal.returns-else-promote-eq1
unfolding said_mark
returns-else-promote-eq1 c = rw (c.in-Plain.is, ne_eqb _ _ c.if-promote-eq1.false)

pub returns-in-Whole : goal.returns-in-Whole
unfolding said_mark
returns-in-Whole c = elim c.in-Whole.is [ inl e ↦ rw e | inr e ↦ rw e ]
