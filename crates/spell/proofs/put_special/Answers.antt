-- The spellings of the constant are the table `written_specials`: antt computes it.
-- Assumes nothing.
use Rattle.spell.proofs.put_special.Goals as goal

pub returns : goal.returns
returns c = c.put_spelled.ensures
