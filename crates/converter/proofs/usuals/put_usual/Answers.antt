-- The three pieces are put one after another, and where the line fits they do.
-- Assumes nothing.
use Rattle.lent.proofs.Writes.{then, sum_fits, within}
use Rattle.converter.specs.inner.Usuals.{name_text, clocks_text}
use Rattle.lent.proofs.Room.{room_after}
use Rattle.converter.proofs.Usually.{usual_room}
use Rattle.converter.proofs.usuals.put_usual.Goals as goal

pub put_start-a-requires : goal.put_start-a-requires
put_start-a-requires c =
    (c.requires.0, (usual_room c.args.e.row.now c.args.e.usual c.args.ply c.requires.1).0)

pub slice_bounds-put_name-count : goal.slice_bounds-put_name-count
slice_bounds-put_name-count c = within c.put_start-a.ensures

pub slice_bounds-put_name-start : goal.slice_bounds-put_name-start
slice_bounds-put_name-start c = slice_bounds-put_name-count c

pub put_name-requires : goal.put_name-requires
put_name-requires c =
    let row = c.args.e.row.now in
    room_after (name_text row) c.put_start-a.ensures (usual_room row c.args.e.usual c.args.ply c.requires.1).1

pub overflow_add-b : goal.overflow_add-b
overflow_add-b c = sum_fits (then c.put_start-a.ensures c.put_name.ensures) c.well_formed.0.0

pub slice_bounds-put_clocks-count : goal.slice_bounds-put_clocks-count
slice_bounds-put_clocks-count c = within (then c.put_start-a.ensures c.put_name.ensures)

pub slice_bounds-put_clocks-start : goal.slice_bounds-put_clocks-start
slice_bounds-put_clocks-start c = slice_bounds-put_clocks-count c

pub put_clocks-requires : goal.put_clocks-requires
put_clocks-requires c =
    let row = c.args.e.row.now in
    room_after (clocks_text row) (then c.put_start-a.ensures c.put_name.ensures) c.requires.1

pub returns : goal.returns
returns c =
    then (then c.put_start-a.ensures c.put_name.ensures) c.put_clocks.ensures

pub overflow_add-result : goal.overflow_add-result
overflow_add-result c = sum_fits (returns c) c.well_formed.0.0
