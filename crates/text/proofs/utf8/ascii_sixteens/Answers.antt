use native.Mathlib.Omega.{arith}
use Rattle.text.proofs.Passing.{run_none, run_on}
use Rattle.text.proofs.utf8.ascii_sixteens.Goals as goal

pub loop-at-init : goal.loop-at-init
loop-at-init c = run_none _ _ _

pub overflow_add-at : goal.overflow_add-at
overflow_add-at c = let t = c.is_ascii.ensures c.loop-at-test.true in omega (arith, t.within)

pub loop-at-smaller : goal.loop-at-smaller
loop-at-smaller c = let t = c.is_ascii.ensures c.loop-at-test.true in omega (arith, t.within)

pub loop-at-preserved : goal.loop-at-preserved
loop-at-preserved c = run_on c.loop-at.invariant (c.is_ascii.ensures c.loop-at-test.true)

pub returns : goal.returns
returns c = c.loop-at.invariant
