use native.Mathlib.Omega.{arith}
use mathlib.Core.Path.{◌≡◌, sym, ◌∙◌}
use Rattle.edit.proofs.Leading.{above_passes}
use Rattle.edit.proofs.Seeking.{play_in, place_is, passes_on, passes_stop, passes_none}
use Rattle.edit.proofs.checks.place_of.Goals as goal

pub loop-n-init : goal.loop-n-init
loop-n-init c =
    let a = c.args in
    let e = c.lines_in-lines.ensures.0 in
    let p = c.requires in
    (omega arith, omega arith, place_is a.b.now c.lines_in-lines.result e a.k a.j (omega arith))

pub returns-then-start_of-j : goal.returns-then-start_of-j
returns-then-start_of-j c =
    let l = c.loop-n in
    let a = c.args in
    let w = passes_stop (above_passes a.j) (play_in a.b.now) c.lines_in-lines.result l.n c.loop-n-test.true (omega (arith, c.if-start_of-j.true, c.start_of.ensures.0)) in
    (sym (l.invariant.2 ∙ w), l.invariant.0, omega (arith, c.lines_in-lines.ensures.0))

pub loop-n-preserved : goal.loop-n-preserved
loop-n-preserved c =
    let l = c.loop-n in
    let a = c.args in
    let w = passes_on (above_passes a.j) (play_in a.b.now) c.lines_in-lines.result l.n c.loop-n-test.true (omega (arith, c.if-start_of-j.false, c.start_of.ensures.0)) in
    (omega arith, omega arith, l.invariant.2 ∙ w)

pub returns : goal.returns
returns c =
    let l = c.loop-n in
    let a = c.args in
    let w = passes_none (above_passes a.j) (play_in a.b.now) c.lines_in-lines.result l.n c.loop-n-test.false in
    let e : l.n ≡ c.lines_in-lines.result = omega arith in
    (sym (l.invariant.2 ∙ w ∙ e), omega arith, omega (arith, c.lines_in-lines.ensures.0))
