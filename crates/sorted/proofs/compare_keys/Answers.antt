use native.Mathlib.Omega.{arith}
use mathlib.Core.Path.{refl, sym, ◌∙◌}
use Rattle.sorted.proofs.Keys.{four_less, four_same, four_greater}
use Rattle.sorted.proofs.compare_keys.Goals as goal

pub returns-then-s-m : goal.returns-then-s-m
returns-then-s-m c = c.compare_slowly.ensures

pub loop-left-init : goal.loop-left-init
loop-left-init c = (omega arith, omega arith, refl)

pub returns-then-x-eq0 : goal.returns-then-x-eq0
returns-then-x-eq0 c = c.compare_slowly-then-x-eq0.ensures ∙ sym c.loop-left.invariant.2

pub returns-then-y-eq0 : goal.returns-then-y-eq0
returns-then-y-eq0 c = c.compare_slowly-then-y-eq0.ensures ∙ sym c.loop-left.invariant.2

pub returns-then-x-y : goal.returns-then-x-y
returns-then-x-y c =
    sym (c.loop-left.invariant.2 ∙ four_less (c.four-x.ensures (omega arith)) (c.four-y.ensures (omega arith)) c.if-x-y.true)

pub returns-then-y-x : goal.returns-then-y-x
returns-then-y-x c =
    sym (c.loop-left.invariant.2 ∙ four_greater (c.four-x.ensures (omega arith)) (c.four-y.ensures (omega arith)) c.if-y-x.true)

pub loop-left-preserved : goal.loop-left-preserved
loop-left-preserved c =
    (omega arith, omega arith, c.loop-left.invariant.2 ∙ four_same (c.four-x.ensures (omega arith)) (c.four-y.ensures (omega arith)) (omega arith))

pub returns : goal.returns
returns c = c.compare_slowly-2.ensures ∙ sym c.loop-left.invariant.2
