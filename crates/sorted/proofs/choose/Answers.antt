-- Different leads tell the order, and that of the packs is theirs; where they are equal what follows in the keys does.
-- Assumes nothing.
-- once the keys are compared: how the packs stand
use native.Mathlib.Omega.{arith}
use mathlib.Core.Path.{◌≡◌, sym, ap, ◌∙◌}
use Rattle.std.specs.declared.cmp.Ordering.{Ordering}
use Rattle.sorted.specs.inner.Packs.{step_of, by_pack}
use Rattle.sorted.proofs.Packs.{pack_keys, apart}
use Rattle.sorted.proofs.choose.Goals as goal
use Rattle.sorted.proofs.choose.Goals.{After-compare_keys}

order : (c : After-compare_keys) (w : Ordering) → c.compare_keys.result ≡ w
    → by_pack c.args.s.now c.args.x c.args.y ≡ w
order c w e =
    let a = c.args in
    pack_keys a.s.now a.x a.y c.told-d.result c.told-d.ensures.0 c.if-x-y.false ∙ sym c.compare_keys.ensures ∙ e

pub returns-then-x-y : goal.returns-then-x-y
returns-then-x-y c =
    let a = c.args in
    apart a.s.now a.x a.y c.if-x-y.true _ _ c.is_less-left.ensures c.lesser-value.ensures

pub returns-in-Less : goal.returns-in-Less
returns-in-Less c =
    let a = c.args in
    (ap (λ (o : Ordering). step_of o a.x a.y) (sym (order (goal.at.returns-in-Less c).After-compare_keys _ c.in-Less.is)), omega arith, omega arith, omega arith)

pub returns-in-Equal : goal.returns-in-Equal
returns-in-Equal c =
    let a = c.args in
    (ap (λ (o : Ordering). step_of o a.x a.y) (sym (order (goal.at.returns-in-Equal c).After-compare_keys _ c.in-Equal.is)), omega arith, omega arith, omega arith)

pub returns-in-Greater : goal.returns-in-Greater
returns-in-Greater c =
    let a = c.args in
    (ap (λ (o : Ordering). step_of o a.x a.y) (sym (order (goal.at.returns-in-Greater c).After-compare_keys _ c.in-Greater.is)), omega arith, omega arith, omega arith)
