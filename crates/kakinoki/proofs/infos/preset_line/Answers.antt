-- The answers of the steps, handed on as the definition hands them on.
-- Assumes nothing.
use Rattle.kakinoki.specs.Informations.{preset_line_at}
use Rattle.kakinoki.proofs.infos.preset_line.Goals as goal

pub returns-in_err-inside : goal.returns-in_err-inside
unfolding preset_line_at
returns-in_err-inside c = rw (← c.tag.ensures, c.in_err-inside.was) c.from_residual.ensures

pub returns-in_err-n : goal.returns-in_err-n
unfolding preset_line_at
returns-in_err-n c = rw (← c.tag.ensures, c.in_ok-inside.was, ← c.preset.ensures, c.in_err-n.was) c.from_residual-in_err-n.ensures

pub returns : goal.returns
unfolding preset_line_at
returns c = rw (← c.tag.ensures, c.in_ok-inside.was, ← c.preset.ensures, c.in_ok-n.was, ← c.ends_line.ensures)
