-- The number of each arm is the code of the kind's spelling: antt computes both. No other number has a spelling.
-- Assumes nothing.
use Prim.Native.Nat.{ℕ}
use mathlib.Core.Path.{refl, sym, ap}
use Rattle.spell.specs.Tables.{move_kinds}
use Rattle.spell.specs.Spell.{spelled, code}
use Rattle.spell.proofs.Codes.{unspelled}
use Rattle.spell.proofs.kind_code.Goals as goal

pub returns-in-1 : goal.returns-in-1
unfolding spelled
returns-in-1 c = sym (ap (λ (n : ℕ). code (spelled move_kinds n)) c.in-1.is)

pub returns-in-2 : goal.returns-in-2
unfolding spelled
returns-in-2 c = sym (ap (λ (n : ℕ). code (spelled move_kinds n)) c.in-2.is)

pub returns-in-3 : goal.returns-in-3
unfolding spelled
returns-in-3 c = sym (ap (λ (n : ℕ). code (spelled move_kinds n)) c.in-3.is)

pub returns-in-4 : goal.returns-in-4
unfolding spelled
returns-in-4 c = sym (ap (λ (n : ℕ). code (spelled move_kinds n)) c.in-4.is)

pub returns-in-5 : goal.returns-in-5
unfolding spelled
returns-in-5 c = sym (ap (λ (n : ℕ). code (spelled move_kinds n)) c.in-5.is)

pub returns-in-6 : goal.returns-in-6
unfolding spelled
returns-in-6 c = sym (ap (λ (n : ℕ). code (spelled move_kinds n)) c.in-6.is)

pub returns-in-7 : goal.returns-in-7
unfolding spelled
returns-in-7 c = sym (ap (λ (n : ℕ). code (spelled move_kinds n)) c.in-7.is)

pub returns-in-8 : goal.returns-in-8
unfolding spelled
returns-in-8 c = sym (ap (λ (n : ℕ). code (spelled move_kinds n)) c.in-8.is)

pub returns-in-9 : goal.returns-in-9
unfolding spelled
returns-in-9 c = sym (ap (λ (n : ℕ). code (spelled move_kinds n)) c.in-9.is)

pub returns-in-10 : goal.returns-in-10
unfolding spelled
returns-in-10 c = sym (ap (λ (n : ℕ). code (spelled move_kinds n)) c.in-10.is)

pub returns-in-11 : goal.returns-in-11
unfolding spelled
returns-in-11 c = sym (ap (λ (n : ℕ). code (spelled move_kinds n)) c.in-11.is)

pub returns-in-12 : goal.returns-in-12
unfolding spelled
returns-in-12 c = sym (ap (λ (n : ℕ). code (spelled move_kinds n)) c.in-12.is)

pub returns-in-13 : goal.returns-in-13
unfolding spelled
returns-in-13 c = sym (ap (λ (n : ℕ). code (spelled move_kinds n)) c.in-13.is)

pub returns-in-14 : goal.returns-in-14
unfolding spelled
returns-in-14 c = sym (ap (λ (n : ℕ). code (spelled move_kinds n)) c.in-14.is)

pub returns-in_default : goal.returns-in_default
returns-in_default c = sym (ap code (unspelled 14 move_kinds refl c.args.n c.in_default.in_default-own.rest))
