use Prim.Native.Nat.{ℕ}
use native.Mathlib.Omega.{arith}
use mathlib.Core.Path.{◌≡◌, refl, ap, ◌∙◌}
use mathlib.Core.List.{List, ◌++◌, map}
use lib.ListN.{length, take, drop, get_or, length-set, length-map}
use lib.Seq.{take_all, length-take-le}
use Rattle.sorted.specs.inner.Packs.{pack_place}
use Rattle.sorted.proofs.Buffers.{unpack_more}
use Rattle.sorted.proofs.unpack.Goals as goal

pub loop-i-init : goal.loop-i-init
loop-i-init c = (refl, c.requires.0, c.requires.1, refl)

pub loop-i-preserved : goal.loop-i-preserved
loop-i-preserved c =
    let l = c.loop-i in
    let a = c.args in
    (length-set l.out l.i (pack_place (get_or a.from.now l.i 0)) ∙ l.invariant.0, l.invariant.1, l.invariant.2, unpack_more a.from.now a.out.now l.out a.n l.i l.invariant.1 l.invariant.2 c.loop-i-test.true l.invariant.3)

pub returns : goal.returns
returns c =
    let l = c.loop-i in
    let a = c.args in
    let p = map pack_place (take a.n a.from.now) in
    let e : l.i ≡ a.n = omega arith in
    let m : length p ≡ a.n = length-map (take a.n a.from.now) pack_place ∙ length-take-le a.n a.from.now l.invariant.1 in
    l.invariant.3 ∙ ap (λ (n : ℕ). take n p ++ drop n a.out.now) e ∙ ap (λ (x : List ℕ). x ++ drop a.n a.out.now) (take_all a.n p (omega arith))
