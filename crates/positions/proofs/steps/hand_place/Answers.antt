-- The answers are those of the definition, test by test.
-- Assumes nothing.
use native.Mathlib.Omega.{arith}
use Rattle.positions.proofs.steps.hand_place.Goals as goal

pub overflow_add-result : goal.overflow_add-result
overflow_add-result c = omega (arith, c.for_white.ensures.1, c.wide.ensures.1)
