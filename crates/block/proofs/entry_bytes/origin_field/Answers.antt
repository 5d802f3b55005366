-- Each arm's mark and bytes are those that `from_mark` and `origin_bytes` give that origin, and 1 is the larger mark.
-- Assumes nothing.
use native.Mathlib.Omega.{arith}
use mathlib.Core.Path.{refl}
use Rattle.block.proofs.entry_bytes.origin_field.Goals as goal

pub returns-in-None : goal.returns-in-None
returns-in-None c = rw c.in-None.is (refl, omega arith, refl)

pub returns-in-Some : goal.returns-in-Some
returns-in-Some c = rw c.in-Some.is (refl, omega arith, refl)
