use Prim.Native.Nat.{◌+◌, zero-le}
use native.Mathlib.Omega.{arith}
use mathlib.Core.Path.{◌≡◌, sym}
use lib.ListN.{length}
use Rattle.lent.proofs.Writes.{as_text, nothing}
use Rattle.converter.specs.Entries.{noted_text}
use Rattle.converter.specs.inner.Lines.{noted_said}
use Rattle.converter.proofs.Runs.{entries_none, entries-front, entries_step}
use Rattle.lent.proofs.Room.{room_left}
use Rattle.block.proofs.Within.{moves-small}
use Rattle.block.proofs.Sounding.{keeps}
use Rattle.converter.proofs.kif.put_entries.Goals as goal

pub loop-i-init : goal.loop-i-init
loop-i-init c =
    let a = c.args in
    (zero-le, as_text (sym (entries_none a.ply (noted_said a.mode a.b.bytes.now) a.first)) (nothing _))

pub put_noted-at-requires : goal.put_noted-at-requires
put_noted-at-requires c =
    let a = c.args in
    let l = c.loop-i in
    let h = entries-front a.ply (noted_said a.mode a.b.bytes.now) a.first l.i a.count (omega arith) in
    (omega arith, room_left (length (noted_text (a.ply + l.i) (noted_said a.mode a.b.bytes.now (a.first + l.i)))) l.invariant.1 (omega (arith, l.invariant.1.count, c.requires.2)), c.row_of-rows.ensures)

pub loop-i-preserved : goal.loop-i-preserved
loop-i-preserved c =
    let a = c.args in
    let l = c.loop-i in
    (omega arith, entries_step a.ply (noted_said a.mode a.b.bytes.now) a.first l.i l.invariant.1 c.put_noted-at.ensures)

pub returns : goal.returns
returns c =
    let e : c.loop-i.i ≡ c.args.count = omega arith in
    rw e at c.loop-i.invariant.1

pub overflow_add-ply : goal.overflow_add-ply
overflow_add-ply c = omega (arith, moves-small c.args.b.bytes.now (keeps c.args.b))

pub overflow_add-first : goal.overflow_add-first
overflow_add-first c = omega (arith, moves-small c.args.b.bytes.now (keeps c.args.b))
