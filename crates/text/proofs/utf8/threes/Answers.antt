use Prim.Native.Nat.{◌+◌}
use native.Mathlib.Omega.{arith}
use Rattle.text.specs.inner.Runs.{Run}
use Rattle.text.specs.Text.{past_all}
use Rattle.text.specs.Utf8.{char_width}
use Rattle.text.proofs.Passing.{run_on, three_run}
use Rattle.text.proofs.utf8.threes.Goals as goal
use Rattle.text.proofs.utf8.threes.Goals.{In-loop-at}

-- the turn's character
turn : (c : In-loop-at) → Run (past_all char_width c.args.s.now) c.args.s.now c.loop-at.at (c.loop-at.at + 3)
turn c = three_run _ _ (c.is_three.ensures c.loop-at-test.true)

pub loop-at-init : goal.loop-at-init
loop-at-init c = c.many_threes-at.ensures

pub overflow_add-at : goal.overflow_add-at
overflow_add-at c = omega (arith, (turn c).within)

pub loop-at-smaller : goal.loop-at-smaller
loop-at-smaller c = omega (arith, (turn c).within)

pub loop-at-preserved : goal.loop-at-preserved
loop-at-preserved c = run_on c.loop-at.invariant (turn c)

pub returns : goal.returns
returns c = c.loop-at.invariant
