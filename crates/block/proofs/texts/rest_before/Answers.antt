use native.Mathlib.Omega.{arith}
use mathlib.Core.Path.{sym, ◌∙◌}
use Rattle.block.proofs.Orders.{before-end, before-short, before_less, before_more, before_on}
use Rattle.block.proofs.texts.rest_before.Goals as goal

pub returns-then-a-i : goal.returns-then-a-i
returns-then-a-i c =
    let a = c.args in
    sym (c.loop-i.invariant ∙ before-short a.a.now a.b.now c.loop-i.i (omega arith) (omega arith))

pub returns-then-a-i-2 : goal.returns-then-a-i-2
returns-then-a-i-2 c =
    let a = c.args in
    sym (c.loop-i.invariant ∙ before_less a.a.now a.b.now c.loop-i.i (omega arith) (omega arith) c.if-a-i-2.true)

pub returns-then-b-i : goal.returns-then-b-i
returns-then-b-i c =
    let a = c.args in
    sym (c.loop-i.invariant ∙ before_more a.a.now a.b.now c.loop-i.i (omega arith) (omega arith) c.if-b-i.true)

pub loop-i-preserved : goal.loop-i-preserved
loop-i-preserved c =
    let a = c.args in
    c.loop-i.invariant ∙ before_on a.a.now a.b.now c.loop-i.i (omega arith) (omega arith) (omega arith)

pub returns : goal.returns
returns c =
    let a = c.args in
    sym (c.loop-i.invariant ∙ before-end a.a.now a.b.now c.loop-i.i (omega arith))
