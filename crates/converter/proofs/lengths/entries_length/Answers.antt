use native.Mathlib.Omega.{arith}
use mathlib.Core.Path.{◌≡◌, ap, ◌∙◌}
use lib.ListN.{length}
use Rattle.block.specs.Decode.{run}
use Rattle.converter.specs.Entries.{entries_text}
use Rattle.converter.specs.inner.Lines.{noted_said}
use Rattle.converter.proofs.Counted.{entries_zero, entries_next}
use Rattle.block.proofs.Within.{moves-small}
use Rattle.block.proofs.Sounding.{keeps}
use Rattle.converter.proofs.lengths.entries_length.Goals as goal

pub loop-i-init : goal.loop-i-init
loop-i-init c = (omega arith, entries_zero c.args.ply (noted_said c.args.mode c.args.b.bytes.now) c.args.first, omega arith)

pub loop-i-preserved : goal.loop-i-preserved
loop-i-preserved c =
    let a = c.args in
    let l = c.loop-i in
    (omega arith, entries_next a.ply (noted_said a.mode a.b.bytes.now) a.first l.i l.n c.noted_length-n.result l.invariant.1 c.noted_length-n.ensures.0, omega arith)

pub returns : goal.returns
returns c =
    let a = c.args in
    let l = c.loop-i in
    let z : l.i ≡ a.count = omega arith in
    (l.invariant.1 ∙ ap (λ i. length (entries_text a.ply (run (noted_said a.mode a.b.bytes.now) a.first i))) z, omega arith)

pub overflow_add-ply : goal.overflow_add-ply
overflow_add-ply c = omega (arith, moves-small c.args.b.bytes.now (keeps c.args.b))

pub overflow_add-first : goal.overflow_add-first
overflow_add-first c = omega (arith, moves-small c.args.b.bytes.now (keeps c.args.b))

pub noted_length-n-requires : goal.noted_length-n-requires
noted_length-n-requires c = (omega arith, omega (arith, moves-small c.args.b.bytes.now (keeps c.args.b)), c.row_of-rows.ensures)

pub overflow_add-n : goal.overflow_add-n
overflow_add-n c = omega (arith, moves-small c.args.b.bytes.now (keeps c.args.b), c.loop-i.invariant.2, c.noted_length-n.ensures.1)
