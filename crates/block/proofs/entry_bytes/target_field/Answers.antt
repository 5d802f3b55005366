-- Each arm's mark and bytes are those that `same_mark` and `target_bytes` give that target, and 2 is the larger mark.
-- Assumes nothing.
use native.Mathlib.Omega.{arith}
use mathlib.Core.Path.{refl}
use Rattle.block.proofs.entry_bytes.target_field.Goals as goal

pub returns-in-Same : goal.returns-in-Same
returns-in-Same c = rw c.in-Same.is (refl, omega arith, refl)

pub returns-in-Square : goal.returns-in-Square
returns-in-Square c = rw c.in-Square.is (refl, omega arith, refl)
