-- The test says whether it is sound; the fact that it is then stands in the value (`where_so_is`).
-- Assumes nothing.
use Rattle.block.specs.Sound.{soundb}
use Rattle.block.proofs.Sounding.{where_so_is}
use Rattle.block.proofs.sound_block.SoundBlock.of.Goals as goal

pub returns : goal.returns
returns c = where_so_is (soundb c.args.bytes.now) _ _
