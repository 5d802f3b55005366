-- The answer of `line`, and its figures.
-- Assumes nothing.
use mathlib.Core.Path.{ap, ◌∙◌}
use Rattle.jkf.specs.Answers.{figures}
use Rattle.kif.proofs.Telling.{told}
use Rattle.kif.proofs.kif_line.Goals as goal

pub returns : goal.returns
returns c = told (c.from-f.ensures ∙ ap figures c.line.ensures)
