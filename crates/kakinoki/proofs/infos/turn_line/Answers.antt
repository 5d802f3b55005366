-- The answers of the steps, handed on as the definition hands them on.
-- Assumes nothing.
use Rattle.kakinoki.specs.Informations.{turn_line_at}
use Rattle.kakinoki.proofs.infos.turn_line.Goals as goal

pub returns-in_err-n : goal.returns-in_err-n
unfolding turn_line_at
returns-in_err-n c = rw (← c.side.ensures, c.in_err-n.was) c.from_residual.ensures

pub returns-in_err-end : goal.returns-in_err-end
unfolding turn_line_at
returns-in_err-end c = rw (← c.side.ensures, c.in_ok-n.was, ← c.tag.ensures, c.in_err-end.was) c.from_residual-in_err-end.ensures

pub returns : goal.returns
unfolding turn_line_at
returns c = rw (← c.side.ensures, c.in_ok-n.was, ← c.tag.ensures, c.in_ok-end.was, ← c.ends_line.ensures)
