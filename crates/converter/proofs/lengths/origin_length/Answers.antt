-- 打 is three bytes; a known origin is two brackets and two numbers of at most three digits.
-- Assumes nothing.
use native.Mathlib.Omega.{arith}
use Rattle.lent.proofs.Digits.{digits_three}
use Rattle.converter.proofs.Lengthy.{unknown_length, from-length}
use Rattle.converter.proofs.lengths.origin_length.Goals as goal

pub overflow_add-result : goal.overflow_add-result
overflow_add-result c = omega (arith, digits_three c.in-Some.x (omega arith))

pub overflow_add-result-in-Some : goal.overflow_add-result-in-Some
overflow_add-result-in-Some c =
    omega (arith, digits_three c.in-Some.x (omega arith), digits_three c.in-Some.y (omega arith))

pub returns-in-None : goal.returns-in-None
returns-in-None c = (unknown_length c.in-None.is, omega arith)

pub returns-in-Some : goal.returns-in-Some
returns-in-Some c =
    omega (arith, from-length c.in-Some.is, digits_three c.in-Some.x (omega arith), digits_three c.in-Some.y (omega arith))
