-- The answers of the steps, handed on as the definition hands them on.
-- Assumes nothing.
use Rattle.kakinoki.specs.Informations.{value_at}
use Rattle.kakinoki.proofs.infos.value.Goals as goal

pub returns-in_err-from : goal.returns-in_err-from
unfolding value_at
returns-in_err-from c = rw (← c.tag.ensures, c.in_err-from.was) c.from_residual.ensures

pub returns-in_err-to : goal.returns-in_err-to
unfolding value_at
returns-in_err-to c = rw (← c.tag.ensures, c.in_ok-from.was, ← c.tail.ensures, c.in_err-to.was) c.from_residual-in_err-to.ensures

pub returns-in_err-next : goal.returns-in_err-next
unfolding value_at
returns-in_err-next c = rw (← c.tag.ensures, c.in_ok-from.was, ← c.tail.ensures, c.in_ok-to.was, ← c.line_ending.ensures, c.in_err-next.was) c.from_residual-in_err-next.ensures

pub returns : goal.returns
unfolding value_at
returns c = rw (← c.tag.ensures, c.in_ok-from.was, ← c.tail.ensures, c.in_ok-to.was, ← c.line_ending.ensures, c.in_ok-next.was)
