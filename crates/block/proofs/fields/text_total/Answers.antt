-- The sum over the places of the rows is the sum of the field (`field-sum`).
-- Assumes nothing.
use Prim.Native.Nat.{◌+◌}
use native.Mathlib.Omega.{arith}
use mathlib.Core.Path.{◌∙◌}
use Rattle.block.proofs.Sums.{field-sum}
use Rattle.block.specs.Decode.{comment_place}
use Rattle.block.proofs.fields.text_total.Goals as goal

pub returns : goal.returns
returns c =
    let b = c.args.b.now in
    let s = c.sum_of.ensures in
    (s.0 ∙ field-sum b (λ k. comment_place b k + 2) _ 4 _ _ (λ k. omega (arith, c.comment_place.ensures.0)) c.comments.ensures.0, omega (arith, s.1, c.comments.ensures.1))
