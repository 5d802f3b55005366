-- The answer of `store_position`, and its figures.
-- Assumes nothing.
use mathlib.Core.Path.{ap, ◌∙◌}
use Rattle.jkf.specs.Answers.{figures}
use Rattle.kif.proofs.Telling.{told}
use Rattle.kif.proofs.kif_position.Goals as goal

pub returns : goal.returns
returns c =
    record { answered = told (c.from-f.ensures ∙ ap figures c.store_position.ensures.value); out_after = c.store_position.ensures.out_after }
