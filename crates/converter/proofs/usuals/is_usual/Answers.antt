-- Each part was asked.
-- Assumes nothing.
use native.Mathlib.Omega.{arith}
use Rattle.converter.proofs.usuals.is_usual.Goals as goal

pub returns-then-is_said_so : goal.returns-then-is_said_so
returns-then-is_said_so c = grind arith
