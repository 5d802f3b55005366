-- A text that is refused early is answered so, and of any other the length is told.
-- Assumes nothing.
use Rattle.std.specs.Prelude.{Some, None}
use mathlib.Core.Path.{◌≡◌, sym, ◌∙◌}
use Rattle.parser.specs.Read.{early_of, measure_of}
use Rattle.parser.proofs.Completing.{measured_so}
use Rattle.parser.proofs.reads.measure.Goals as goal

pub returns-in-Some : goal.returns-in-Some
unfolding measure_of
returns-in-Some c =
    let q : early_of c.args.text.now ≡ Some c.in-Some.a = sym c.survey-v.ensures.early_value ∙ c.in-Some.is in
    rw q

pub returns-in-None : goal.returns-in-None
unfolding measure_of
returns-in-None c =
    let s = c.args.text.now in
    let e = c.in-None.is in
    let q : early_of s ≡ None = sym c.survey-v.ensures.early_value ∙ e in
    rw q (c.measured.ensures ∙ measured_so (c.survey-v.ensures.sorted e).found)
