-- The answers of `numeral` and `past_ten`, as the definition hands them on; a numeral is below 10.
-- Assumes nothing.
use native.Mathlib.Omega.{arith}
use mathlib.Core.Path.{sym, ◌∙◌}
use Rattle.spell.proofs.Counts.{numeral_small}
use Rattle.spell.proofs.Answers.{as_is}
use Rattle.spell.specs.Count.{tens_at}
use Rattle.spell.proofs.kansuji.tens.Goals as goal

pub returns-in_default : goal.returns-in_default
unfolding tens_at
returns-in_default c = rw (← c.numeral.ensures, c.in_default.is) c.past_ten.ensures

pub overflow_mul-d : goal.overflow_mul-d
overflow_mul-d c =
    let a = c.args in
    omega (arith, (as_is (numeral_small a.s.now a.c.at) (sym c.numeral.ensures ∙ c.in-Some.is)).small)

pub returns : goal.returns
unfolding tens_at
returns c = rw (← c.numeral.ensures, c.in-Some.is) c.past_ten-2.ensures
