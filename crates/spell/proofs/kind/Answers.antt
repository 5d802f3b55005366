-- The three bytes are a kind, and that is the one here, or only a kind of two characters can stand here (`slot-first`, `slot-longer`).
-- Assumes nothing.
-- three bytes stand here
use Prim.Native.Nat.{◌+◌, ◌≤◌}
use native.Mathlib.Omega.{arith}
use mathlib.Core.Path.{refl, sym, ◌∙◌}
use lib.ListN.{length}
use borrow.Author.Tests.{ltb-true, ltb-false}
use Rattle.spell.specs.Tables.{kinds}
use Rattle.spell.specs.inner.Slots.{kind_slots}
use Rattle.spell.proofs.Lookups.{short-first, slot-first, slot_longer}
use Rattle.spell.proofs.kind.Goals as goal
use Rattle.spell.proofs.kind.Goals.{Else-is_short}

room : (c : Else-is_short) → c.args.c.at + 3 ≤ length c.args.s.now
room c = ltb-false _ _ (sym c.is_short.ensures ∙ c.if-is_short.false)

pub returns-then-is_short : goal.returns-then-is_short
returns-then-is_short c = sym (short-first kinds refl _ _ (ltb-true _ _ (sym c.is_short.ensures ∙ c.if-is_short.true)))

pub bounds-s-at : goal.bounds-s-at
bounds-s-at c = omega (arith, room (goal.at.bounds-s-at c).Else-is_short)

pub overflow_add-at : goal.overflow_add-at
overflow_add-at c = omega (arith, room (goal.at.overflow_add-at c).Else-is_short)

pub bounds-s-at-2 : goal.bounds-s-at-2
bounds-s-at-2 c = omega (arith, room (goal.at.bounds-s-at-2 c).Else-is_short)

pub overflow_add-at-2 : goal.overflow_add-at-2
overflow_add-at-2 c = omega (arith, room (goal.at.overflow_add-at-2 c).Else-is_short)

pub bounds-s-at-3 : goal.bounds-s-at-3
bounds-s-at-3 c = omega (arith, room (goal.at.bounds-s-at-3 c).Else-is_short)

pub returns-then-n-eq0 : goal.returns-then-n-eq0
returns-then-n-eq0 c =
    let a = c.args in
    c.promoted.ensures ∙ sym (slot_longer kinds kind_slots 35 refl refl refl a.s.now a.c.at (λ i. omega (arith, c.shared_slice_known-1.given i)) _ c.kind_of-n.ensures c.if-n-eq0.true)

pub overflow_add-result : goal.overflow_add-result
overflow_add-result c = omega (arith, room (goal.at.overflow_add-result c).Else-is_short)

pub returns : goal.returns
returns c =
    let a = c.args in
    sym (slot-first kinds kind_slots 35 refl refl refl a.s.now a.c.at (λ i. omega (arith, c.shared_slice_known-1.given i)) _ c.kind_of-n.ensures c.if-n-eq0.false)
