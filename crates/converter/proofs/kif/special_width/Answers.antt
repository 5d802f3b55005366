-- Each arm computes, and the last is for the endings that count no width.
-- Assumes nothing.
use native.Mathlib.Omega.{arith}
use mathlib.Core.Path.{refl, sym}
use Rattle.spell.specs.Spell.{spelled}
use Rattle.text.specs.Text.{same}
use Rattle.converter.specs.Entries.{special_text, special_width}
use Rattle.converter.proofs.Worded.{special_else}
use Rattle.converter.proofs.kif.special_width.Goals as goal

pub returns-in-0 : goal.returns-in-0
unfolding special_width special_text spelled same
returns-in-0 c = rw c.in-0.is (refl, omega arith)

pub returns-in-2 : goal.returns-in-2
unfolding special_width special_text spelled same
returns-in-2 c = rw c.in-2.is (refl, omega arith)

pub returns-in-3 : goal.returns-in-3
unfolding special_width special_text spelled same
returns-in-3 c = rw c.in-3.is (refl, omega arith)

pub returns-in-4 : goal.returns-in-4
unfolding special_width special_text spelled same
returns-in-4 c = rw c.in-4.is (refl, omega arith)

pub returns-in-7 : goal.returns-in-7
unfolding special_width special_text spelled same
returns-in-7 c = rw c.in-7.is (refl, omega arith)

pub returns-in-8 : goal.returns-in-8
unfolding special_width special_text spelled same
returns-in-8 c = rw c.in-8.is (refl, omega arith)

pub returns-in-11 : goal.returns-in-11
unfolding special_width special_text spelled same
returns-in-11 c = rw c.in-11.is (refl, omega arith)

pub returns-in_default : goal.returns-in_default
returns-in_default c = (sym (special_else c.args.n c.in_default.in_default-own.rest), omega arith)
