-- The parent is played up to where the line hangs by the call, then the line's own entries; the number of the line falls at each call.
-- Assumes nothing.
use native.Mathlib.Omega.{arith}
use mathlib.Core.Path.{◌≡◌, ap}
use Rattle.block.specs.Decode.{parent_of, entry_count}
use Rattle.positions.specs.Paths.{course_of}
use Rattle.positions.proofs.Walks.{hang-within, rows-small, play_under, play_main}
use Prim.Native.Nat.{◌<◌}
use Rattle.block.proofs.Sounding.{keeps}
use Rattle.positions.proofs.paths.+play_to.Goals as goal

pub play_to-before-requires : goal.play_to-before-requires
play_to-before-requires t c =
    let b = c.args.b.bytes.now in
    let k = c.args.k in
    let e = c.parent_of-p.ensures.0 in
    let pre = c.requires in
    let l : parent_of b k < k = omega (arith, e, c.if-p-k.true) in
    let h = hang-within b (keeps c.args.b) k pre.0 l in
    let f : entry_count b c.parent_of-p.result ≡ entry_count b (parent_of b k) = ap (entry_count b) e in
    (omega (arith, c.requires.0, c.if-p-k.true), (omega (arith, pre.0, c.if-p-k.true), omega (arith, h, f, c.hang_entry.ensures), pre.2))

pub play_in-requires : goal.play_in-requires
play_in-requires t c =
    let pre = c.requires in
    (rows-small _ (keeps c.args.b) _ _ pre.0 pre.1, omega (arith, pre.2, c.play_to-before.auto))

pub returns-then-p-k : goal.returns-then-p-k
returns-then-p-k t c =
    let a = c.args in
    play_under a.b.bytes.now a.k a.n _ _ (course_of a.l _) _ _ c.parent_of-p.ensures.0 c.if-p-k.true c.hang_entry.ensures c.play_to-before.ensures c.play_in.ensures

pub play_in-requires-2 : goal.play_in-requires-2
play_in-requires-2 t c =
    let pre = c.requires in
    (rows-small _ (keeps c.args.b) _ _ pre.0 pre.1, pre.2)

pub returns : goal.returns
returns t c =
    let a = c.args in
    play_main a.b.bytes.now a.k a.n _ (course_of a.l _) _ c.parent_of-p.ensures.0 c.if-p-k.false c.play_in-2.ensures
