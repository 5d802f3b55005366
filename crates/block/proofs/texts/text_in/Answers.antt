-- The text at the offset, of the length, both of which stand in the block: read at once where it has all four bytes, and cut at once where the
-- texts have all of it.
-- Assumes nothing.
use mathlib.Core.Path.{ap, ◌∙◌}
use lib.ListN.{take}
use Rattle.block.proofs.Cuts.{part_whole, part_as}
use Rattle.block.proofs.texts.text_in.Goals as goal

pub returns-then-offset-len : goal.returns-then-offset-len
returns-then-offset-len c =
    let t = c.args.texts.now in
    part_whole t c.pair-offset.result c.pair-len.result ∙ part_as t c.pair-offset.ensures.0 c.pair-len.ensures.0

pub returns : goal.returns
returns c =
    let t = c.args.texts.now in
    c.front.ensures ∙ ap (take c.get16-2.result) c.rest.ensures ∙ part_as t c.get16.ensures.0 c.get16-2.ensures.0
