use Prim.Native.Nat.{◌+◌, zero-le}
use native.Mathlib.Omega.{arith}
use mathlib.Core.Path.{sym}
use lib.ListN.{length}
use Rattle.lent.proofs.Writes.{as_text, nothing}
use Rattle.block.specs.Decode.{comment_of}
use Rattle.converter.specs.Entries.{remark_text}
use Rattle.converter.proofs.Runs.{remarks_none, remarks_front, remarks_step}
use Rattle.lent.proofs.Room.{room_left}
use Rattle.converter.proofs.kif.put_remarks.Goals as goal

pub loop-i-init : goal.loop-i-init
loop-i-init c =
    let a = c.args in
    (zero-le, as_text (sym (remarks_none (comment_of a.b.now) a.first)) (nothing _))

pub put_remark-at-requires : goal.put_remark-at-requires
put_remark-at-requires c =
    let a = c.args in
    let l = c.loop-i in
    let h = remarks_front (comment_of a.b.now) a.first l.i a.count (omega arith) in
    rw c.comment_of.ensures (room_left (length (remark_text (comment_of a.b.now (a.first + l.i)))) l.invariant.1 (omega (arith, l.invariant.1.count, c.requires.1)))

pub loop-i-preserved : goal.loop-i-preserved
loop-i-preserved c =
    let a = c.args in
    let l = c.loop-i in
    (omega arith, remarks_step (comment_of a.b.now) a.first l.i l.invariant.1 c.comment_of.ensures c.put_remark-at.ensures)
