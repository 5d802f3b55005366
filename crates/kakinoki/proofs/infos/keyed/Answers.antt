-- The answers of the steps, handed on as the definition hands them on.
-- Assumes nothing.
use Rattle.kakinoki.specs.Informations.{keyed_at}
use Rattle.kakinoki.proofs.infos.keyed.Goals as goal

pub returns-in_default : goal.returns-in_default
unfolding keyed_at
returns-in_default c = rw (← c.key_value.ensures, c.in_default.is, ← c.handless.ensures)

pub returns : goal.returns
unfolding keyed_at
returns c = rw (← c.key_value.ensures, c.in-Some.is, ← c.handless-2.ensures)
