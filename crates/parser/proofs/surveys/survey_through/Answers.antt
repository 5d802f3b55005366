-- Where what stands before the moves has a fault, its place is answered, and else what was found.
-- Assumes nothing.
use Rattle.std.specs.Prelude.{Some, None}
use mathlib.Core.Path.{◌≡◌, sym, ◌∙◌}
use Rattle.jkf.specs.declared.Answer.TheVariants.{HandLine}
use Rattle.parser.specs.Read.{faultless}
use Rattle.parser.proofs.Preparing.{no_pass}
use Rattle.parser.proofs.surveys.survey_through.Goals as goal

pub returns-in-Some : goal.returns-in-Some
unfolding faultless
returns-in-Some c =
    let e : faultless c.args.s.now ≡ Some (HandLine c.in-Some.at) = rw (← c.parse_without_moves-start.ensures.value, c.in-Some.is) in
    record { early_value = c.refused.ensures ∙ sym e; sorted = λ q. no_pass c.refused.ensures q }

pub returns-in-None : goal.returns-in-None
unfolding faultless
returns-in-None c =
    let e : faultless c.args.s.now ≡ None = rw (← c.parse_without_moves-start.ensures.value, c.in-None.is) in
    record { early_value = c.survey_start.ensures.0 ∙ sym e; sorted = λ _. c.survey_start.ensures.1 }
