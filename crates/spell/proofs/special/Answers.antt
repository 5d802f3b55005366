-- The spellings of the constant are the table `specials`: antt computes it.
-- Assumes nothing.
use Rattle.spell.proofs.special.Goals as goal

pub returns : goal.returns
returns c = c.find.ensures
