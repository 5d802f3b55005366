-- The answers are those of the definition, test by test.
-- Assumes nothing.
use native.Mathlib.Omega.{arith}
use mathlib.Core.Path.{refl}
use borrow.Author.Tests.{eq-eqb, ne_eqb}
use Rattle.positions.proofs.steps.for_white.Goals as goal

pub returns-then-turn-eq0 : goal.returns-then-turn-eq0
returns-then-turn-eq0 c = rw (eq-eqb _ _ c.if-turn-eq0.true) (refl, omega arith)

pub returns-else-turn-eq0 : goal.returns-else-turn-eq0
returns-else-turn-eq0 c = rw (ne_eqb _ _ c.if-turn-eq0.false) (refl, omega arith)
