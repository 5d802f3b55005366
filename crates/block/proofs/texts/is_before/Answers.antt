use native.Mathlib.Omega.{arith}
use mathlib.Core.Path.{refl, sym, ◌∙◌}
use Rattle.block.proofs.Orders.{four_same, four_order}
use Rattle.block.proofs.texts.is_before.Goals as goal

pub loop-i-init : goal.loop-i-init
loop-i-init c = (omega arith, refl)

pub returns-then-x-y : goal.returns-then-x-y
returns-then-x-y c =
    let l = c.loop-i in
    sym (l.invariant.1 ∙ four_order c.args.a.now c.args.b.now l.i c.four-x.result c.four-y.result (omega arith) (omega arith) (λ j. omega (arith, c.shared_slice_known-1.given j)) (λ j. omega (arith, c.shared_slice_known-2-1.given j)) c.four-x.ensures c.four-y.ensures c.if-x-y.true)

pub loop-i-preserved : goal.loop-i-preserved
loop-i-preserved c =
    let l = c.loop-i in
    (omega arith, l.invariant.1 ∙ four_same c.args.a.now c.args.b.now l.i c.four-x.result c.four-y.result (omega arith) (omega arith) (λ j. omega (arith, c.shared_slice_known-1.given j)) (λ j. omega (arith, c.shared_slice_known-2-1.given j)) c.four-x.ensures c.four-y.ensures c.if-x-y.false)

pub returns : goal.returns
returns c = c.rest_before.ensures ∙ sym c.loop-i.invariant.1
