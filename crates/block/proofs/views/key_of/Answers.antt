-- The key among the texts of the block.
-- Assumes nothing.
use mathlib.Core.Path.{◌∙◌}
use Rattle.block.proofs.Cuts.{key_in}
use Rattle.block.proofs.views.key_of.Goals as goal

pub returns : goal.returns
returns c =
    let a = c.args in
    c.key_in.ensures ∙ key_in a.b.now _ c.texts_of.ensures a.k
