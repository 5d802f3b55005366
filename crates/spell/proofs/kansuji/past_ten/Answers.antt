-- The answer of `tag`, handed on.
-- Assumes nothing.
use Rattle.spell.proofs.kansuji.past_ten.Goals as goal

pub returns-in_err-e : goal.returns-in_err-e
returns-in_err-e c = rw (← c.tag.ensures, c.in_err-e.was) c.from_residual.ensures

pub returns : goal.returns
returns c = rw (← c.tag.ensures, c.in_ok-e.was)
