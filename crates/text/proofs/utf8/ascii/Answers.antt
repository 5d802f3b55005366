use native.Mathlib.Omega.{arith}
use Rattle.text.proofs.Passing.{run_none, run_on}
use Rattle.text.proofs.utf8.ascii.Goals as goal

pub returns-then-s-from : goal.returns-then-s-from
returns-then-s-from c = run_none _ _ _

pub returns-then-first-from : goal.returns-then-first-from
returns-then-first-from c = c.ascii_of_eight-first.ensures

pub loop-at-init : goal.loop-at-init
loop-at-init c = (run_on c.ascii_of_eight-first.ensures c.ascii_sixteens-at.ensures, omega arith)

pub returns-then-e-at : goal.returns-then-e-at
returns-then-e-at c = run_on c.loop-at.invariant.0 c.ascii_of_eight-e.ensures

pub loop-at-preserved : goal.loop-at-preserved
loop-at-preserved c = (run_on c.loop-at.invariant.0 c.ascii_of_eight-e.ensures, omega (arith, c.loop-at.invariant.1))
