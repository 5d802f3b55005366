-- A number below 100 takes two places, and any other byte has three digits.
-- Assumes nothing.
use native.Mathlib.Omega.{arith}
use Rattle.converter.proofs.Lengthy.{figure_two, figure_three}
use Rattle.converter.proofs.lengths.figure_length.Goals as goal

pub returns-then-v-lt100 : goal.returns-then-v-lt100
returns-then-v-lt100 c = (figure_two c.args.v c.if-v-lt100.true, omega arith)

pub returns-else-v-lt100 : goal.returns-else-v-lt100
returns-else-v-lt100 c = (figure_three c.args.v c.if-v-lt100.false (omega arith), omega arith)
