-- The spellings of the constant are the table `sides`: antt computes it.
-- Assumes nothing.
use Rattle.spell.proofs.side.Goals as goal

pub returns : goal.returns
returns c = c.find.ensures
