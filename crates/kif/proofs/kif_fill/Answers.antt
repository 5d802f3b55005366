-- The answer of `fill`, and its figures.
-- Assumes nothing.
use mathlib.Core.Path.{ap, ◌∙◌}
use Rattle.jkf.specs.Answers.{figures}
use Rattle.kif.proofs.Telling.{told}
use Rattle.kif.proofs.kif_fill.Goals as goal

pub returns : goal.returns
returns c =
    record {
      answered = told (c.from-f.ensures ∙ ap figures c.fill-r.ensures.answer_value);
      out_after = c.fill-r.ensures.out_after;
      lost_after = c.fill-r.ensures.lost_value;
    }
