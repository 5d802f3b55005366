-- The row's place, and the field's place in the row.
-- Assumes nothing.
use Prim.Native.Nat.{ℕ, ◌+◌}
use mathlib.Core.Path.{ap, ◌∙◌}
use Rattle.lent.specs.Bytes.{le16}
use Rattle.block.proofs.fields.entry_count.Goals as goal

pub returns : goal.returns
returns c = (c.get16.ensures.0 ∙ ap (λ (p : ℕ). le16 c.args.b.now (p + 4)) c.line_place.ensures.0, c.get16.ensures.1)
