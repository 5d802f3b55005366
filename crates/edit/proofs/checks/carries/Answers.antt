use native.Mathlib.Omega.{arith}
use mathlib.Core.Path.{sym, ◌∙◌}
use Rattle.block.specs.Decode.{line_in}
use Rattle.edit.proofs.Seeking.{variations_are, carries-next, carries-none}
use Rattle.block.proofs.Sounding.{keeps}
use Rattle.edit.proofs.checks.carries.Goals as goal

pub loop-i-init : goal.loop-i-init
loop-i-init c =
    let a = c.args in
    let e = c.lines_in-lines.ensures.0 in
    let s = (keeps a.b).totals.0 in
    (omega arith, variations_are a.b.bytes.now c.lines_in-lines.result e a.k a.j (omega arith))

pub returns-then-hangs_on : goal.returns-then-hangs_on
returns-then-hangs_on c =
    let l = c.loop-i in
    let a = c.args in
    let n = c.lines_in-lines.result in
    sym (l.invariant.1 ∙ carries-next a.k a.j (line_in a.b.bytes.now) n l.i c.hangs_on.result c.loop-i-test.true c.hangs_on.ensures ∙ rw c.if-hangs_on.true)

pub loop-i-preserved : goal.loop-i-preserved
loop-i-preserved c =
    let l = c.loop-i in
    let a = c.args in
    let n = c.lines_in-lines.result in
    (omega arith, l.invariant.1 ∙ carries-next a.k a.j (line_in a.b.bytes.now) n l.i c.hangs_on.result c.loop-i-test.true c.hangs_on.ensures ∙ rw c.if-hangs_on.false)

pub returns : goal.returns
returns c =
    let a = c.args in
    sym (c.loop-i.invariant.1 ∙ carries-none a.k a.j (line_in a.b.bytes.now) c.lines_in-lines.result c.loop-i.i c.loop-i-test.false)
