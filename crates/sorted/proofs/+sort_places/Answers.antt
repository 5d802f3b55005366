-- What is kept of two halves, merged, is what is kept of the whole. The places are fewer at each call.
-- Assumes nothing.
use Prim.Native.Nat.{ℕ, ◌-◌, ◌/◌}
use native.Mathlib.Omega.{arith}
use mathlib.Core.Path.{sym}
use lib.ListN.{length, drop, length-take, length-drop}
use lib.Seq.{length-take-le}
use Rattle.sorted.proofs.Buffers.{packs-none, packs-one, Halves, first_in, second_in, packs_two}
use Rattle.sorted.proofs.+sort_places.Goals as goal
use Rattle.sorted.proofs.+sort_places.Goals.{After-sort_places-j}

-- once both halves are sorted: the text, the places, and the halves
halves : (t : ℕ) (c : After-sort_places-j t)
    → Halves c.args.s.now c.args.from.now c.sort_places-i.new.out c.sort_places-j.new.out c.sort_places-i.result c.sort_places-j.result (length c.args.from.now / 2)
halves t c = record { first = c.sort_places-i.ensures; second = c.sort_places-j.ensures; in_places = omega arith; in_scratch = omega arith }

pub returns-then-n-eq0 : goal.returns-then-n-eq0
returns-then-n-eq0 t c =
    let a = c.args in
    packs-none a.s.now a.from.now _ c.if-n-eq0.true

pub returns-then-n-eq1 : goal.returns-then-n-eq1
returns-then-n-eq1 t c =
    let a = c.args in
    packs-one a.s.now a.from.now a.out.now _ (omega arith) (omega arith) c.pack.ensures

pub slice_bounds-sort_places-end : goal.slice_bounds-sort_places-end
slice_bounds-sort_places-end t c = sym (length-take-le _ c.args.from.now (omega arith))

pub sort_places-i-requires : goal.sort_places-i-requires
sort_places-i-requires t c =
    let f = c.args.from.now in
    omega (arith, length-take (length f / 2) f)

pub sort_places-j-requires : goal.sort_places-j-requires
sort_places-j-requires t c =
    let f = c.args.from.now in
    let h = length f / 2 in
    let t₁ = c.sort_places-i.new.out in
    omega (arith, length-take (length f - h) (drop h f), length-drop h f, length-take (length t₁ - h) (drop h t₁), length-drop h t₁)

pub merge_halves-requires : goal.merge_halves-requires
merge_halves-requires t c =
    let w = halves t (goal.at.merge_halves-requires t c).After-sort_places-j in
    omega (arith, first_in w, second_in w)

pub returns : goal.returns
returns t c = packs_two (halves t (goal.at.returns t c).After-sort_places-j) c.merge_halves.ensures
