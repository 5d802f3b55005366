use Prim.Native.Nat.{◌≤◌, ◌<◌}
use native.Mathlib.Omega.{arith}
use mathlib.Core.Path.{sym, ◌∙◌}
use lib.ListN.{get_or}
use borrow.Author.Tests.{lt-ltb, le-ltb}
use Rattle.converter.proofs.Blocked.{hand-more, hand-none}
use Rattle.converter.proofs.checks.hand_obstacle.Goals as goal

pub returns-then-peek-gt99 : goal.returns-then-peek-gt99
returns-then-peek-gt99 c =
    let l = c.loop-i in
    let s = c.args.hands.now in
    let h : 99 < get_or s l.i 0 = omega (arith, c.peek.ensures) in
    sym (l.invariant.1 ∙ hand-more s l.i c.loop-i-test.true ∙ rw (lt-ltb _ _ h))

pub loop-i-preserved : goal.loop-i-preserved
loop-i-preserved c =
    let l = c.loop-i in
    let s = c.args.hands.now in
    let h : get_or s l.i 0 ≤ 99 = omega (arith, c.peek.ensures) in
    (omega arith, l.invariant.1 ∙ hand-more s l.i c.loop-i-test.true ∙ rw (le-ltb _ _ h))

pub returns : goal.returns
returns c = sym (c.loop-i.invariant.1 ∙ hand-none c.args.hands.now c.loop-i.i c.loop-i-test.false)
