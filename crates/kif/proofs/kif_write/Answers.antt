-- The answer of `write`, and its figures.
-- Assumes nothing.
use mathlib.Core.Path.{ap, ◌∙◌}
use Rattle.jkf.specs.Answers.{figures}
use Rattle.kif.proofs.Telling.{told}
use Rattle.kif.proofs.kif_write.Goals as goal

pub returns : goal.returns
returns c =
    record { answered = told (c.from-f.ensures ∙ ap figures c.write.ensures.value); out_after = c.write.ensures.out_after }
