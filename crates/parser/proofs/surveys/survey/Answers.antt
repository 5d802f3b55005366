-- Each refusal is told where the definition asks for it, and else what was found of the text.
-- Assumes nothing.
use mathlib.Core.Path.{sym, ◌∙◌}
use native.Mathlib.Omega.{arith}
use borrow.Author.Tests.{lt-ltb, le-ltb}
use Rattle.parser.specs.Read.{early_of}
use Rattle.parser.proofs.Preparing.{late, no_pass}
use Rattle.parser.proofs.surveys.survey.Goals as goal

pub returns-then-s-gt65535 : goal.returns-then-s-gt65535
unfolding early_of
returns-then-s-gt65535 c = record { early_value = rw (lt-ltb 65535 _ c.if-s-gt65535.true) c.refused.ensures; sorted = λ q. no_pass c.refused.ensures q }

pub returns-then-n-s : goal.returns-then-n-s
unfolding early_of
returns-then-n-s c =
    record { early_value = rw (← c.well_formed-n.ensures, le-ltb _ _ c.if-s-gt65535.false, lt-ltb _ _ c.if-n-s.true) c.refused-then-n-s.ensures; sorted = λ q. no_pass c.refused-then-n-s.ensures q }

pub returns : goal.returns
returns c =
    record { early_value = c.survey_text.ensures.early_value ∙ sym (late c.args.s.now c.if-s-gt65535.false (omega (arith, c.if-n-s.false, c.well_formed-n.ensures))); sorted = c.survey_text.ensures.sorted }
