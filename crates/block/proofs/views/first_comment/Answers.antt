-- The number stands 16 bytes into the row.
-- Assumes nothing.
use mathlib.Core.Path.{◌∙◌, ap}
use Prim.Native.Nat.{ℕ, ◌+◌}
use Rattle.lent.specs.Bytes.{le16}
use Rattle.block.proofs.views.first_comment.Goals as goal

pub returns : goal.returns
returns c =
    let b = c.args.b.now in
    (c.get16.ensures.0 ∙ ap (λ (n : ℕ). le16 b (n + 16)) c.move_place.ensures.0, c.get16.ensures.1)
