use native.Mathlib.Omega.{arith}
use Rattle.lent.proofs.Digits.{decimal-length-one, decimal-length-more}
use Rattle.lent.proofs.decimal_len.Goals as goal

pub loop-rest-preserved : goal.loop-rest-preserved
loop-rest-preserved c = omega (arith, decimal-length-more c.loop-rest.rest (omega arith))

pub returns : goal.returns
returns c = omega (arith, decimal-length-one c.loop-rest.rest (omega arith))
