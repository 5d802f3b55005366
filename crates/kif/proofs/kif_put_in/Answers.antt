-- The answer of `put_in`, and its figures.
-- Assumes nothing.
use mathlib.Core.Path.{ap, ◌∙◌}
use Rattle.jkf.specs.Answers.{figures}
use Rattle.kif.proofs.Telling.{told}
use Rattle.kif.proofs.kif_put_in.Goals as goal

pub returns : goal.returns
returns c =
    record { answered = told (c.from-f.ensures ∙ ap figures c.put_in.ensures.value); out_after = c.put_in.ensures.out_after }
