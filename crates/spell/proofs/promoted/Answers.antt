-- The spellings of the constant are the table `promoted_kinds`: antt computes it.
-- Assumes nothing.
use Rattle.spell.proofs.promoted.Goals as goal

pub returns : goal.returns
returns c = c.find.ensures
