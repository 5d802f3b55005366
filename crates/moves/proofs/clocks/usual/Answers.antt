-- The bytes of the usual form make its figures.
-- Assumes nothing.
use Prim.Native.Nat.{◌+◌, ℕ}
use native.Mathlib.Omega.{arith}
use mathlib.Core.Path.{◌≡◌, refl, sym, subst}
use lib.ListN.{get_or}
use Rattle.moves.proofs.Clocking.{usual_time}
use Rattle.text.proofs.Laws.{digit_bounds}
use Rattle.moves.specs.inner.Usuals.{Two}
use Rattle.moves.proofs.clocks.usual.Goals as goal

pub overflow_sub-m : goal.overflow_sub-m
overflow_sub-m c = omega (arith, digit_bounds (get_or c.args.s.now (c.args.at + 2) 0) c.requires.now.minute)

pub value-requires-3 : goal.value-requires-3
value-requires-3 c =
    let a = c.args in
    let e : a.at + 7 + 3 ≡ a.at + 10 = omega arith in
    subst (λ (p : ℕ). Two a.s.now p) e c.requires.total.minute

pub value-requires-4 : goal.value-requires-4
value-requires-4 c =
    let a = c.args in
    let e : a.at + 7 + 6 ≡ a.at + 13 = omega arith in
    subst (λ (p : ℕ). Two a.s.now p) e c.requires.total.second

pub returns : goal.returns
returns c =
    let a = c.args in
    let t = usual_time a.s.now a.at (a.at + 7) (a.at + 10) (a.at + 13) c.requires refl (omega arith) (omega arith) in
    rw (c.value.ensures, c.value-2.ensures, c.value-3.ensures, c.value-4.ensures) (sym t)
