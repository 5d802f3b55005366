-- Those of no line, or of the line that was counted (`added_none`, `added-one`).
-- Assumes nothing.
use native.Mathlib.Omega.{arith}
use Rattle.edit.proofs.Measured.{added_none, added_one}
use Rattle.edit.proofs.lines.sizes_added.Goals as goal

pub returns-in-None : goal.returns-in-None
returns-in-None c = rw c.in-None.is (omega arith, λ t k. added_none)

pub returns-in-Some : goal.returns-in-Some
returns-in-Some c = rw c.in-Some.is (omega arith, λ t k. added_one c.in-Some.x.line t k.1)
