use native.Mathlib.Omega.{arith}
use Prim.Native.Nat.{◌+◌}
use mathlib.Core.Path.{refl}
use Rattle.block.specs.Decode.{line_in}
use Rattle.block.proofs.Tabling.{map-run}
use Rattle.edit.specs.Edit.{reparented}
use Rattle.edit.specs.inner.Splicing.{shifted}
use Rattle.edit.proofs.Copied.{run_step, run_done}
use Rattle.edit.proofs.Hung.{whole-size}
use Rattle.edit.proofs.lines.copy_lines.Invariants.{copied}
use Rattle.block.proofs.Within.{lines-small}
use Rattle.block.proofs.Sounding.{keeps}
use Rattle.edit.proofs.lines.copy_lines.Goals as goal

pub loop-k-preserved : goal.loop-k-preserved
loop-k-preserved c =
    let a = c.args in
    let l = c.loop-k in
    let g = copied a.x a.b.bytes.now in
    run_step g a.i a.count l.invariant (g (a.i + l.k)) refl c.loop-k-test.true (whole-size (g (a.i + l.k)) l.v l.out) c.copy_line-v.ensures.value c.copy_line-v.ensures.out_after

pub returns : goal.returns
returns c =
    let a = c.args in
    let w = run_done (copied a.x a.b.bytes.now) a.i a.count c.loop-k.invariant c.loop-k-test.false in
    rw (map-run (line_in a.b.bytes.now) (reparented (shifted a.x.p a.x.q a.x.added)) a.i a.count) (record { value = w.0; out_after = w.1 })

pub overflow_add-i : goal.overflow_add-i
overflow_add-i c = omega (arith, lines-small c.args.b.bytes.now (keeps c.args.b))
