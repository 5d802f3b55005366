-- The answers of the steps, handed on as the definition hands them on.
-- Assumes nothing.
use Rattle.kakinoki.proofs.infos.ends_line.Goals as goal

pub returns-in_err-end : goal.returns-in_err-end
returns-in_err-end c = rw (← c.padded_end.ensures, c.in_err-end.was) c.from_residual.ensures

pub returns : goal.returns
returns c = rw (← c.padded_end.ensures, c.in_ok-end.was)
