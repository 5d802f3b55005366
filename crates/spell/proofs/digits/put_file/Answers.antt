-- The constant is the table `files`: antt computes it.
-- Assumes nothing.
use native.Mathlib.Omega.{arith}
use mathlib.Core.Path.{refl}
use Rattle.spell.specs.Tables.{files}
use Rattle.spell.proofs.digits.put_file.Goals as goal

pub put_digit-requires : goal.put_digit-requires
put_digit-requires c = (files, record { whole = refl; fits = refl; few = omega arith })

pub returns : goal.returns
returns c = c.put_digit.ensures files (record { whole = refl; fits = refl; few = omega arith })
