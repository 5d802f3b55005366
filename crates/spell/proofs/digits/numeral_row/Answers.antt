-- Each arm's row stands in the arm's slot, and no other slot has one.
-- Assumes nothing.
use mathlib.Core.Path.{sym, ap}
use borrow.Author.Tests.{ne_eqb}
use Rattle.spell.specs.inner.Slots.{look, numeral_slots}
use Rattle.spell.proofs.digits.numeral_row.Goals as goal

pub returns-in-1 : goal.returns-in-1
returns-in-1 c = sym (ap (look numeral_slots) c.in-1.is)

pub returns-in-5 : goal.returns-in-5
returns-in-5 c = sym (ap (look numeral_slots) c.in-5.is)

pub returns-in-6 : goal.returns-in-6
returns-in-6 c = sym (ap (look numeral_slots) c.in-6.is)

pub returns-in-8 : goal.returns-in-8
returns-in-8 c = sym (ap (look numeral_slots) c.in-8.is)

pub returns-in-9 : goal.returns-in-9
returns-in-9 c = sym (ap (look numeral_slots) c.in-9.is)

pub returns-in-10 : goal.returns-in-10
returns-in-10 c = sym (ap (look numeral_slots) c.in-10.is)

pub returns-in-12 : goal.returns-in-12
returns-in-12 c = sym (ap (look numeral_slots) c.in-12.is)

pub returns-in-13 : goal.returns-in-13
returns-in-13 c = sym (ap (look numeral_slots) c.in-13.is)

pub returns-in-16 : goal.returns-in-16
returns-in-16 c = sym (ap (look numeral_slots) c.in-16.is)

pub returns-in_default : goal.returns-in_default
returns-in_default c = rw (ne_eqb c.args.h 1 c.in_default.in_default-own.rest.0.0.0.0.0.0.0.0.1, ne_eqb c.args.h 5 c.in_default.in_default-own.rest.0.0.0.0.0.0.0.1, ne_eqb c.args.h 6 c.in_default.in_default-own.rest.0.0.0.0.0.0.1, ne_eqb c.args.h 8 c.in_default.in_default-own.rest.0.0.0.0.0.1, ne_eqb c.args.h 9 c.in_default.in_default-own.rest.0.0.0.0.1, ne_eqb c.args.h 10 c.in_default.in_default-own.rest.0.0.0.1, ne_eqb c.args.h 12 c.in_default.in_default-own.rest.0.0.1, ne_eqb c.args.h 13 c.in_default.in_default-own.rest.0.1, ne_eqb c.args.h 16 c.in_default.in_default-own.rest.1)
