-- `look` over the table of comments.
-- Assumes nothing.
use Prim.Native.Nat.{◌+◌, ◌*◌}
use native.Mathlib.Omega.{arith}
use mathlib.Core.Path.{◌≡◌}
use Rattle.block.proofs.LookUps.{looked}
use Rattle.block.specs.Decode.{comment_of, comment_place}
use Rattle.block.proofs.looks.comment.Goals as goal

pub returns : goal.returns
unfolding comment_of
returns c =
    let w = (let a = c.args in
    let b = a.b.now in
    let p : c.comment_place.result + 4 * a.k ≡ comment_place b a.k = omega (arith, c.comment_place.ensures.0) in
    let q : c.comment_place.result + 4 * a.k + 2 ≡ comment_place b a.k + 2 = omega arith in
    looked b a.k c.comments.ensures.0 p q (c.look.ensures.result_value, c.look.ensures.answered)) in
    record { result_value = w.0; answered = w.1 }
