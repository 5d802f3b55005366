-- The spellings of the constant are the table `move_kinds`: antt computes it.
-- Assumes nothing.
use Rattle.spell.proofs.put_kind.Goals as goal

pub returns : goal.returns
returns c = c.put_spelled.ensures
