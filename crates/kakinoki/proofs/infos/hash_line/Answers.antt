-- The answers of the steps, handed on as the definition hands them on.
-- Assumes nothing.
use Rattle.kakinoki.specs.Informations.{hash_line_at}
use Rattle.kakinoki.proofs.infos.hash_line.Goals as goal

pub returns-in_err-past : goal.returns-in_err-past
unfolding hash_line_at
returns-in_err-past c = rw (← c.tag.ensures, c.in_err-past.was) c.from_residual.ensures

pub returns : goal.returns
unfolding hash_line_at
returns c = rw (← c.tag.ensures, c.in_ok-past.was, ← c.line_end.ensures)
