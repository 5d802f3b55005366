-- The answer of `write_as`, and its figures.
-- Assumes nothing.
use mathlib.Core.Path.{ap, ◌∙◌}
use Rattle.jkf.specs.Answers.{figures}
use Rattle.kif.proofs.Telling.{told}
use Rattle.kif.proofs.kif_write_as.Goals as goal

pub returns : goal.returns
returns c =
    let answer = rw c.from.ensures at c.write_as.ensures.value in
    let after = rw c.from.ensures at c.write_as.ensures.out_after in
    record { answered = told (c.from-f.ensures ∙ ap figures answer); out_after = after }
