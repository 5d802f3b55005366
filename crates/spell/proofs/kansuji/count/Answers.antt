-- The answers of `tens` and `numeral`, as the definition hands them on; the sum is at most 99.
-- Assumes nothing.
use native.Mathlib.Omega.{arith}
use mathlib.Core.Path.{sym, ◌∙◌}
use Rattle.spell.proofs.Counts.{tens-small, numeral_small}
use Rattle.spell.proofs.Answers.{as_is}
use Rattle.spell.specs.Count.{hand_count_at}
use Rattle.spell.proofs.kansuji.count.Goals as goal

pub returns-in_default : goal.returns-in_default
unfolding hand_count_at
returns-in_default c = rw (← c.tens.ensures, c.in_default.is) c.numeral.ensures

pub returns-in_default-numeral : goal.returns-in_default-numeral
unfolding hand_count_at
returns-in_default-numeral c = rw (← c.tens.ensures, c.in-Some.is, ← c.numeral-2.ensures, c.in_default-numeral.is)

pub overflow_add-result : goal.overflow_add-result
overflow_add-result c =
    let a = c.args in
    let s = a.s.now in
    let t = as_is (tens-small s a.c.at) (sym c.tens.ensures ∙ c.in-Some.is) in
    omega (arith, (as_is (numeral_small s _) (sym c.numeral-2.ensures ∙ c.in-Some-numeral.is)).small)

pub returns : goal.returns
unfolding hand_count_at
returns c = rw (← c.tens.ensures, c.in-Some.is, ← c.numeral-2.ensures, c.in-Some-numeral.is)
