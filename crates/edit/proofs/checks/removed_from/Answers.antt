use native.Mathlib.Omega.{arith}
use mathlib.Core.Path.{◌∙◌}
use Rattle.block.specs.Decode.{line_in}
use Rattle.edit.proofs.Leading.{before_passes}
use Rattle.edit.proofs.Seeking.{run_is, passes_on, passes_stop, passes_none}
use Rattle.block.proofs.Sounding.{keeps}
use Rattle.edit.proofs.checks.removed_from.Goals as goal

pub loop-i-init : goal.loop-i-init
loop-i-init c =
    let a = c.args in
    let (z, l) = c.requires in
    let e = c.lines_in-lines.ensures.0 in
    (omega arith, omega arith, run_is a.b.bytes.now c.lines_in-lines.result e (keeps a.b) a.k z (omega arith))

pub returns-then-parent_of-k : goal.returns-then-parent_of-k
returns-then-parent_of-k c =
    let l = c.loop-i in
    let a = c.args in
    let w = l.invariant.2 ∙ passes_stop (before_passes a.k) (line_in a.b.bytes.now) c.lines_in-lines.result l.i c.loop-i-test.true (omega (arith, c.if-parent_of-k.true, c.parent_of.ensures.0)) in
    (omega arith, omega arith, omega (arith, c.lines_in-lines.ensures.0))

pub loop-i-preserved : goal.loop-i-preserved
loop-i-preserved c =
    let l = c.loop-i in
    let a = c.args in
    let w = passes_on (before_passes a.k) (line_in a.b.bytes.now) c.lines_in-lines.result l.i c.loop-i-test.true (omega (arith, c.if-parent_of-k.false, c.parent_of.ensures.0)) in
    (omega arith, omega arith, l.invariant.2 ∙ w)

pub returns : goal.returns
returns c =
    let l = c.loop-i in
    let a = c.args in
    let w = l.invariant.2 ∙ passes_none (before_passes a.k) (line_in a.b.bytes.now) c.lines_in-lines.result l.i c.loop-i-test.false in
    (omega arith, omega arith, omega (arith, c.lines_in-lines.ensures.0))
