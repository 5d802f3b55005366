-- The constant is the table `numerals`: antt computes it.
-- Assumes nothing.
use native.Mathlib.Omega.{arith}
use mathlib.Core.Path.{refl}
use Rattle.spell.specs.Tables.{numerals}
use Rattle.spell.proofs.digits.put_numeral.Goals as goal

pub put_digit-requires : goal.put_digit-requires
put_digit-requires c = (numerals, record { whole = refl; fits = refl; few = omega arith })

pub returns : goal.returns
returns c = c.put_digit.ensures numerals (record { whole = refl; fits = refl; few = omega arith })
