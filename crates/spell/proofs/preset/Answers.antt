-- The spellings of the constant are the table `presets`: antt computes it.
-- Assumes nothing.
use Rattle.spell.proofs.preset.Goals as goal

pub returns : goal.returns
returns c = c.find.ensures
