-- The position is what the bytes from place 28 on say.
-- Assumes nothing.
use mathlib.Core.Path.{◌∙◌, ap}
use Rattle.block.specs.PositionBytes.{position_in}
use Rattle.block.proofs.views.position_of.Goals as goal

pub returns : goal.returns
returns c = c.position_in.ensures ∙ ap position_in c.rest.ensures
