-- Where not all lines are shown, the first that is not starts at 0.
-- Assumes nothing.
use native.Mathlib.Omega.{arith}
use mathlib.Core.Path.{sym}
use Rattle.converter.proofs.Blocked.{lost_none, lost_some}
use Rattle.converter.proofs.checks.lost_line.Goals as goal

pub returns-then-s-lines_in : goal.returns-then-s-lines_in
returns-then-s-lines_in c = sym (lost_some c.args.s.counted (omega (arith, c.lines_in.ensures.0)))

pub returns : goal.returns
returns c = sym (lost_none c.args.s.counted (omega (arith, c.lines_in.ensures.0)))
