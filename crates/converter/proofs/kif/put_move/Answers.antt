-- Four pieces one after another, each with its room.
-- Assumes nothing.
use Rattle.spell.specs.Tables.{move_kinds}
use Rattle.spell.specs.Spell.{spelled}
use Rattle.lent.proofs.Writes.{then, sum_fits, within}
use Rattle.converter.specs.Entries.{promote_text, origin_text, move_text}
use Rattle.converter.proofs.Worded.{move-room}
use Rattle.lent.proofs.Room.{room_after, then_piece}
use Rattle.converter.proofs.kif.put_move.Goals as goal

pub put_target-a-requires : goal.put_target-a-requires
put_target-a-requires c = (move-room c.args.m c.requires).0

pub slice_bounds-put_kind-count : goal.slice_bounds-put_kind-count
slice_bounds-put_kind-count c = within c.put_target-a.ensures

pub slice_bounds-put_kind-start : goal.slice_bounds-put_kind-start
slice_bounds-put_kind-start c = slice_bounds-put_kind-count c

pub overflow_add-b : goal.overflow_add-b
overflow_add-b c = sum_fits (then c.put_target-a.ensures c.put_kind.ensures) c.well_formed.0.0

pub slice_bounds-put_promote-count : goal.slice_bounds-put_promote-count
slice_bounds-put_promote-count c = within (then c.put_target-a.ensures c.put_kind.ensures)

pub slice_bounds-put_promote-start : goal.slice_bounds-put_promote-start
slice_bounds-put_promote-start c = slice_bounds-put_promote-count c

pub put_promote-requires : goal.put_promote-requires
put_promote-requires c =
    let m = c.args.m in
    let r = move-room m c.requires in
    room_after (promote_text m.promote) (then_piece (spelled move_kinds m.piece) c.put_target-a.ensures r.1 c.put_kind.ensures) r.2

pub overflow_add-c : goal.overflow_add-c
overflow_add-c c = sum_fits (then (then c.put_target-a.ensures c.put_kind.ensures) c.put_promote.ensures) c.well_formed.0.0

pub slice_bounds-put_origin-count : goal.slice_bounds-put_origin-count
slice_bounds-put_origin-count c = within (then (then c.put_target-a.ensures c.put_kind.ensures) c.put_promote.ensures)

pub slice_bounds-put_origin-start : goal.slice_bounds-put_origin-start
slice_bounds-put_origin-start c = slice_bounds-put_origin-count c

pub put_origin-requires : goal.put_origin-requires
unfolding move_text
put_origin-requires c =
    let m = c.args.m in
    let r = move-room m c.requires in
    room_after (origin_text m.from)
    (then (then_piece (spelled move_kinds m.piece) c.put_target-a.ensures r.1 c.put_kind.ensures) c.put_promote.ensures)
    c.requires

pub returns : goal.returns
unfolding move_text
returns c =
    let m = c.args.m in
    let r = move-room m c.requires in
    then (then (then_piece (spelled move_kinds m.piece) c.put_target-a.ensures r.1 c.put_kind.ensures) c.put_promote.ensures)
    c.put_origin.ensures

pub overflow_add-result : goal.overflow_add-result
overflow_add-result c = sum_fits (returns c) c.well_formed.0.0
