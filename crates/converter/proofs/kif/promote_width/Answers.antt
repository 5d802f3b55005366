-- Each return rewrites with its test.
-- Assumes nothing.
use mathlib.Core.Path.{sym}
use borrow.Author.Tests.{eq-eqb, ne_eqb}
use Rattle.converter.proofs.kif.promote_width.Goals as goal

pub returns-then-promote-eq2 : goal.returns-then-promote-eq2
returns-then-promote-eq2 c = sym (simp (eq-eqb _ _ c.if-promote-eq2.true))

pub returns-else-promote-eq2 : goal.returns-else-promote-eq2
returns-else-promote-eq2 c = sym (simp (ne_eqb _ _ c.if-promote-eq2.false))
