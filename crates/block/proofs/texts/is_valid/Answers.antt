-- The count of well-formed bytes is compared as the definition compares it.
-- Assumes nothing.
use Rattle.block.proofs.texts.is_valid.Goals as goal

pub returns : goal.returns
returns c = rw c.well_formed-2.ensures
