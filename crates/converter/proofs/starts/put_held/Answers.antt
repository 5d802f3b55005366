-- Nothing for a count of 0; else the kind, its count and U+3000, for each of which there is room.
-- Assumes nothing.
use Prim.Native.Nat.{◌≤◌}
use native.Mathlib.Omega.{arith}
use mathlib.Core.List.{◌++◌}
use mathlib.Core.Path.{sym, ap}
use lib.ListN.{length}
use Rattle.text.specs.Text.{wide_space}
use Rattle.spell.specs.Spell.{spelled}
use Rattle.spell.specs.Tables.{kinds}
use Rattle.converter.proofs.Cased.{more_text, held_none, held-some}
use Rattle.lent.proofs.Writes.{as_text, nothing, then, sum_fits, within}
use Rattle.lent.proofs.Room.{room-front, room_after, first-of, then_stored}
use Rattle.converter.proofs.starts.put_held.Goals as goal

pub returns-then-count-eq0 : goal.returns-then-count-eq0
returns-then-count-eq0 c = as_text (sym (held_none c.args.kind c.args.count c.if-count-eq0.true)) (nothing _)

pub slice_bounds-put_more-count : goal.slice_bounds-put_more-count
slice_bounds-put_more-count c = within c.put_board_kind-n.ensures

pub slice_bounds-put_more-start : goal.slice_bounds-put_more-start
slice_bounds-put_more-start c = slice_bounds-put_more-count c

pub put_more-requires : goal.put_more-requires
put_more-requires c =
    let a = c.args in
    let k = spelled kinds a.kind in
    let m = more_text a.count in
    let e = held-some a.kind a.count c.if-count-eq0.false in
    let h : length ((k ++ m) ++ wide_space) ≤ length a.out.now = omega (arith, ap length e, c.requires) in
    let g = room-front (k ++ m) wide_space h in
    room_after m (first-of k m g c.put_board_kind-n.ensures) g

pub overflow_add-m : goal.overflow_add-m
overflow_add-m c = sum_fits (then c.put_board_kind-n.ensures c.put_more.ensures) c.well_formed.0.0

pub returns : goal.returns
returns c =
    let a = c.args in
    let k = spelled kinds a.kind in
    let m = more_text a.count in
    let e = held-some a.kind a.count c.if-count-eq0.false in
    let h : length ((k ++ m) ++ wide_space) ≤ length a.out.now = omega (arith, ap length e, c.requires) in
    let w = first-of k m (room-front (k ++ m) wide_space h) c.put_board_kind-n.ensures in
    as_text (sym e) (then_stored wide_space (then w c.put_more.ensures) h c.put_at.ensures)
