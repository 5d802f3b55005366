-- The answer of `skip_line`, handed on as the definition hands it on.
-- Assumes nothing.
use Rattle.reader.specs.TextLines.{skip_at}
use Rattle.reader.proofs.skip_at.Goals as goal

pub returns-in_default : goal.returns-in_default
unfolding skip_at
returns-in_default c = rw (← c.skip_line.ensures, c.in_default.is)

pub returns : goal.returns
unfolding skip_at
returns c = rw (← c.skip_line.ensures, c.in-Some.is)
