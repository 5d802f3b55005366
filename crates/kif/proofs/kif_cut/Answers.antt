-- The answer of `cut`, and its figures.
-- Assumes nothing.
use mathlib.Core.Path.{ap, ◌∙◌}
use Rattle.jkf.specs.Answers.{figures}
use Rattle.kif.proofs.Telling.{told}
use Rattle.kif.proofs.kif_cut.Goals as goal

pub returns : goal.returns
returns c =
    record { answered = told (c.from-f.ensures ∙ ap figures c.cut.ensures.value); out_after = c.cut.ensures.out_after }
