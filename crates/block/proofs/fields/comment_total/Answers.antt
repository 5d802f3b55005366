-- The sum over the places of the rows is the sum of the field (`field-sum`).
-- Assumes nothing.
use Prim.Native.Nat.{◌+◌}
use native.Mathlib.Omega.{arith}
use mathlib.Core.Path.{◌∙◌}
use Rattle.block.proofs.Sums.{field-sum}
use Rattle.block.specs.Decode.{move_place}
use Rattle.block.proofs.fields.comment_total.Goals as goal

pub returns : goal.returns
returns c =
    let b = c.args.b.now in
    let s = c.sum_of.ensures in
    (s.0 ∙ field-sum b (λ k. move_place b k + 18) _ 20 _ _ (λ k. omega (arith, c.move_place.ensures.0)) c.moves.ensures.0, omega (arith, s.1, c.moves.ensures.1))
