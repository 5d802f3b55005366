-- Each arm's ending is computed, and the last arm's endings have six bytes.
-- Assumes nothing.
use native.Mathlib.Omega.{arith}
use mathlib.Core.Path.{refl}
use Rattle.spell.specs.Spell.{spelled}
use Rattle.converter.specs.Entries.{special_text}
use Rattle.converter.proofs.Lengthy.{special_other}
use Rattle.converter.proofs.lengths.special_length.Goals as goal

pub returns-in-2 : goal.returns-in-2
unfolding special_text spelled
returns-in-2 c = rw c.in-2.is (refl, omega arith)

pub returns-in-3 : goal.returns-in-3
unfolding special_text spelled
returns-in-3 c = rw c.in-3.is (refl, omega arith)

pub returns-in-4 : goal.returns-in-4
unfolding special_text spelled
returns-in-4 c = rw c.in-4.is (refl, omega arith)

pub returns-in-7 : goal.returns-in-7
unfolding special_text spelled
returns-in-7 c = rw c.in-7.is (refl, omega arith)

pub returns-in-8 : goal.returns-in-8
unfolding special_text spelled
returns-in-8 c = rw c.in-8.is (refl, omega arith)

pub returns-in_default : goal.returns-in_default
returns-in_default c =
    let h = c.in_default.in_default-own.rest in
    (special_other c.args.n h.0.0.0.0.1 h.0.0.0.1 h.0.0.1 h.0.1 h.1, omega arith)
