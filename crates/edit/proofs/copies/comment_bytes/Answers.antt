use Prim.Native.Nat.{◌+◌}
use native.Mathlib.Omega.{arith}
use mathlib.Core.Path.{ap}
use lib.ListN.{length}
use Rattle.block.specs.Decode.{comment_place, comment_of}
use Rattle.block.proofs.Tabling.{concat-none, concat_longer}
use Rattle.block.proofs.Within.{comment-most}
use Rattle.edit.proofs.copies.comment_bytes.Goals as goal

pub loop-i-init : goal.loop-i-init
loop-i-init c = (omega arith, omega (arith, ap length (concat-none (λ t. t) (comment_of c.args.b.now) c.args.first)), omega arith)

pub loop-i-preserved : goal.loop-i-preserved
loop-i-preserved c =
    let b = c.args.b.now in
    let f = c.args.first in
    let l = c.loop-i in
    let k = f + l.i in
    let e = ap length c.comment_of.ensures in
    let m = comment-most b k in
    (omega arith, omega (arith, l.invariant.1, e, concat_longer (λ t. t) (comment_of b) f l.i), omega (arith, e, m, c.shared_slice_known-1.given (comment_place b k + 2), c.shared_slice_known-1.given (comment_place b k + 2 + 1)))
