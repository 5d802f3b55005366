-- Two digits are bytes from 48 to 57, so nothing wraps.
-- Assumes nothing.
use native.Mathlib.Omega.{arith}
use Rattle.moves.proofs.Clocking.{two_known}
use Rattle.moves.proofs.clocks.value.Goals as goal

pub bounds-s-at : goal.bounds-s-at
bounds-s-at c = omega (arith, two_known c.args.s.now c.args.at c.requires)

pub overflow_sub-result : goal.overflow_sub-result
overflow_sub-result c = omega (arith, two_known c.args.s.now c.args.at c.requires)

pub overflow_mul-result : goal.overflow_mul-result
overflow_mul-result c = omega (arith, two_known c.args.s.now c.args.at c.requires)

pub overflow_add-result : goal.overflow_add-result
overflow_add-result c = omega (arith, two_known c.args.s.now c.args.at c.requires)

pub bounds-s-at-2 : goal.bounds-s-at-2
bounds-s-at-2 c = omega (arith, two_known c.args.s.now c.args.at c.requires)

pub overflow_sub-result-2 : goal.overflow_sub-result-2
overflow_sub-result-2 c = omega (arith, two_known c.args.s.now c.args.at c.requires)

pub overflow_add-result-2 : goal.overflow_add-result-2
overflow_add-result-2 c = omega (arith, two_known c.args.s.now c.args.at c.requires)
