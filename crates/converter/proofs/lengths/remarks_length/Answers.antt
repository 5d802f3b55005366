use Prim.Native.Nat.{◌+◌}
use native.Mathlib.Omega.{arith}
use mathlib.Core.Path.{ap, ◌∙◌}
use lib.ListN.{length}
use Rattle.block.specs.Decode.{comment_place, comment_of}
use Rattle.converter.specs.Entries.{remark_text}
use Rattle.converter.proofs.Counted.{remark_within, remarks_zero, remarks_next}
use Rattle.converter.proofs.lengths.remarks_length.Goals as goal

pub loop-i-init : goal.loop-i-init
loop-i-init c = (omega arith, remarks_zero (comment_of c.args.b.now) c.args.first, omega arith)

pub overflow_add-n : goal.overflow_add-n
overflow_add-n c =
    let b = c.args.b.now in
    let k = c.args.first + c.loop-i.i in
    let e = ap (λ t. length (remark_text t)) c.comment_of.ensures in
    omega (arith, remark_within b k (omega (arith, c.shared_slice_known-1.given (comment_place b k + 2), c.shared_slice_known-1.given (comment_place b k + 2 + 1))))

pub loop-i-preserved : goal.loop-i-preserved
loop-i-preserved c =
    let b = c.args.b.now in
    let f = c.args.first in
    let l = c.loop-i in
    let k = f + l.i in
    let r = c.remark_length-n.ensures ∙ ap (λ t. length (remark_text t)) c.comment_of.ensures in
    let m = remark_within b k (omega (arith, c.shared_slice_known-1.given (comment_place b k + 2), c.shared_slice_known-1.given (comment_place b k + 2 + 1))) in
    (omega arith, remarks_next (comment_of b) f l.i l.n c.remark_length-n.result l.invariant.1 r, omega arith)
