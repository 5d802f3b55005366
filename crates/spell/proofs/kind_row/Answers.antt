-- Each arm's row stands in the arm's slot, and no other slot has one.
-- Assumes nothing.
use mathlib.Core.Path.{sym, ap}
use borrow.Author.Tests.{ne_eqb}
use Rattle.spell.specs.inner.Slots.{look, kind_slots}
use Rattle.spell.proofs.kind_row.Goals as goal

pub returns-in-2 : goal.returns-in-2
returns-in-2 c = sym (ap (look kind_slots) c.in-2.is)

pub returns-in-3 : goal.returns-in-3
returns-in-3 c = sym (ap (look kind_slots) c.in-3.is)

pub returns-in-4 : goal.returns-in-4
returns-in-4 c = sym (ap (look kind_slots) c.in-4.is)

pub returns-in-5 : goal.returns-in-5
returns-in-5 c = sym (ap (look kind_slots) c.in-5.is)

pub returns-in-6 : goal.returns-in-6
returns-in-6 c = sym (ap (look kind_slots) c.in-6.is)

pub returns-in-7 : goal.returns-in-7
returns-in-7 c = sym (ap (look kind_slots) c.in-7.is)

pub returns-in-9 : goal.returns-in-9
returns-in-9 c = sym (ap (look kind_slots) c.in-9.is)

pub returns-in-10 : goal.returns-in-10
returns-in-10 c = sym (ap (look kind_slots) c.in-10.is)

pub returns-in-12 : goal.returns-in-12
returns-in-12 c = sym (ap (look kind_slots) c.in-12.is)

pub returns-in-16 : goal.returns-in-16
returns-in-16 c = sym (ap (look kind_slots) c.in-16.is)

pub returns-in-19 : goal.returns-in-19
returns-in-19 c = sym (ap (look kind_slots) c.in-19.is)

pub returns-in-20 : goal.returns-in-20
returns-in-20 c = sym (ap (look kind_slots) c.in-20.is)

pub returns-in-21 : goal.returns-in-21
returns-in-21 c = sym (ap (look kind_slots) c.in-21.is)

pub returns-in-23 : goal.returns-in-23
returns-in-23 c = sym (ap (look kind_slots) c.in-23.is)

pub returns-in-25 : goal.returns-in-25
returns-in-25 c = sym (ap (look kind_slots) c.in-25.is)

pub returns-in-28 : goal.returns-in-28
returns-in-28 c = sym (ap (look kind_slots) c.in-28.is)

pub returns-in_default : goal.returns-in_default
returns-in_default c = rw (ne_eqb c.args.h 2 c.in_default.in_default-own.rest.0.0.0.0.0.0.0.0.0.0.0.0.0.0.0.1, ne_eqb c.args.h 3 c.in_default.in_default-own.rest.0.0.0.0.0.0.0.0.0.0.0.0.0.0.1, ne_eqb c.args.h 4 c.in_default.in_default-own.rest.0.0.0.0.0.0.0.0.0.0.0.0.0.1, ne_eqb c.args.h 5 c.in_default.in_default-own.rest.0.0.0.0.0.0.0.0.0.0.0.0.1, ne_eqb c.args.h 6 c.in_default.in_default-own.rest.0.0.0.0.0.0.0.0.0.0.0.1, ne_eqb c.args.h 7 c.in_default.in_default-own.rest.0.0.0.0.0.0.0.0.0.0.1, ne_eqb c.args.h 9 c.in_default.in_default-own.rest.0.0.0.0.0.0.0.0.0.1, ne_eqb c.args.h 10 c.in_default.in_default-own.rest.0.0.0.0.0.0.0.0.1, ne_eqb c.args.h 12 c.in_default.in_default-own.rest.0.0.0.0.0.0.0.1, ne_eqb c.args.h 16 c.in_default.in_default-own.rest.0.0.0.0.0.0.1, ne_eqb c.args.h 19 c.in_default.in_default-own.rest.0.0.0.0.0.1, ne_eqb c.args.h 20 c.in_default.in_default-own.rest.0.0.0.0.1, ne_eqb c.args.h 21 c.in_default.in_default-own.rest.0.0.0.1, ne_eqb c.args.h 23 c.in_default.in_default-own.rest.0.0.1, ne_eqb c.args.h 25 c.in_default.in_default-own.rest.0.1, ne_eqb c.args.h 28 c.in_default.in_default-own.rest.1)
