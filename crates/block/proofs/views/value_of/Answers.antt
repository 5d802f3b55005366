-- The value among the texts of the block.
-- Assumes nothing.
use mathlib.Core.Path.{◌∙◌}
use Rattle.block.proofs.Cuts.{value_in}
use Rattle.block.proofs.views.value_of.Goals as goal

pub returns : goal.returns
returns c =
    let a = c.args in
    c.value_in.ensures ∙ value_in a.b.now _ c.texts_of.ensures a.k
