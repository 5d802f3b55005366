use Prim.Native.Nat.{ℕ, ◌+◌, ◌-◌}
use native.Mathlib.Omega.{arith}
use mathlib.Core.Path.{◌≡◌, ap, ◌∙◌}
use Rattle.lent.proofs.Writes.{as_text}
use Rattle.converter.specs.Diagrams.{held_text, held, all_held}
use Rattle.converter.proofs.Ranged.{up_to, wrote_none, wrote_more, room-more}
use Rattle.converter.proofs.Cased.{held_piece}
use Rattle.converter.proofs.starts.put_all_held.Goals as goal

pub loop-kind-init : goal.loop-kind-init
loop-kind-init c = (omega arith, wrote_none _ _)

pub put_held-at-requires : goal.put_held-at-requires
unfolding all_held
put_held-at-requires c =
    let a = c.args in
    let l = c.loop-kind in
    let e : l.kind - 1 ≡ 7 - (8 - l.kind) = omega arith in
    rw (c.peek-count.ensures, e) (room-more (held_piece a.hands.now a.side) (8 - l.kind) 7 l.invariant.1 (omega arith) c.requires.1)

pub loop-kind-preserved : goal.loop-kind-preserved
loop-kind-preserved c =
    let a = c.args in
    let l = c.loop-kind in
    let e : l.kind - 1 ≡ 7 - (8 - l.kind) = omega arith in
    let n : 8 - l.kind + 1 ≡ 8 - (l.kind - 1) = omega arith in
    let p = ap (held_text (l.kind - 1)) c.peek-count.ensures ∙ ap (λ (k : ℕ). held_text k (held a.hands.now a.side k)) e in
    let f = held_piece a.hands.now a.side in
    (omega arith, as_text (ap (up_to f) n) (wrote_more f (8 - l.kind) l.invariant.1 (as_text p c.put_held-at.ensures)))

pub returns : goal.returns
unfolding all_held
returns c =
    let l = c.loop-kind in
    let z : 8 - l.kind ≡ 7 = omega arith in
    as_text (ap (up_to (held_piece c.args.hands.now c.args.side)) z) l.invariant.1
