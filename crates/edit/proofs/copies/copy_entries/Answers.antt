use native.Mathlib.Omega.{arith}
use Prim.Native.Nat.{◌+◌}
use mathlib.Core.Path.{refl}
use Rattle.block.specs.Decode.{noted_in}
use Rattle.filling.proofs.Growing.{noted-size}
use Rattle.edit.proofs.Copied.{run_step, run_done}
use Rattle.block.proofs.Within.{moves-small}
use Rattle.block.proofs.Sounding.{keeps}
use Rattle.edit.proofs.copies.copy_entries.Goals as goal

pub loop-i-preserved : goal.loop-i-preserved
loop-i-preserved c = let a = c.args in let l = c.loop-i in let x = noted_in a.b.bytes.now (a.k + l.i) in run_step (noted_in a.b.bytes.now) a.k a.count l.invariant x refl c.loop-i-test.true (noted-size x l.v l.out) c.copy_entry-v.ensures.value c.copy_entry-v.ensures.out_after

pub returns : goal.returns
returns c =
    let w = (let a = c.args in run_done (noted_in a.b.bytes.now) a.k a.count c.loop-i.invariant c.loop-i-test.false) in
    record { value = w.0; out_after = w.1 }

pub overflow_add-k : goal.overflow_add-k
overflow_add-k c = omega (arith, moves-small c.args.b.bytes.now (keeps c.args.b))
