-- 成 has three bytes, 不成 has six, and nothing else is written.
-- Assumes nothing.
use native.Mathlib.Omega.{arith}
use Rattle.converter.proofs.Lengthy.{promote_three, promote_six, promote_none}
use Rattle.converter.proofs.lengths.promote_length.Goals as goal

pub returns-in-1 : goal.returns-in-1
returns-in-1 c = (promote_six c.args.promote c.in-1.is, omega arith)

pub returns-in-2 : goal.returns-in-2
returns-in-2 c = (promote_three c.args.promote c.in-2.is, omega arith)

pub returns-in_default : goal.returns-in_default
returns-in_default c = grind (arith, promote_none c.args.promote)
