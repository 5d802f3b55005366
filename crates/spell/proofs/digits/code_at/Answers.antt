-- The code of the three bytes.
-- Assumes nothing.
use Rattle.spell.specs.inner.Codes.{code_at}
use Rattle.spell.proofs.digits.code_at.Goals as goal

pub returns : goal.returns
unfolding code_at
returns c = c.code.ensures
