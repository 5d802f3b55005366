-- The header, the position and the lines stand one after the other.
-- Assumes nothing.
use mathlib.Core.Path.{sym, ap}
use lib.ListN.{drop}
use Rattle.lent.proofs.Writes.{as_text, then, sum_fits, within}
use Rattle.block.specs.PositionBytes.{position_in}
use Rattle.block.specs.Decode.{decode}
use Rattle.converter.specs.Diagrams.{position_text}
use Rattle.converter.specs.Said.{said_lines}
use Rattle.converter.specs.Show.{lines_text}
use Rattle.lent.proofs.Room.{room_after, room_as}
use Rattle.converter.proofs.Showing.{record_is, record_room}
use Rattle.converter.proofs.put_record.Goals as goal

pub put_headers-n-requires : goal.put_headers-n-requires
put_headers-n-requires c =
    let b = c.args.s.block.bytes.now in
    (record_room c.args.mode b c.requires).0

pub slice_bounds-put_position-count : goal.slice_bounds-put_position-count
slice_bounds-put_position-count c = within c.put_headers-n.ensures

pub slice_bounds-put_position-start : goal.slice_bounds-put_position-start
slice_bounds-put_position-start c = slice_bounds-put_position-count c

pub put_position-requires : goal.put_position-requires
put_position-requires c =
    let b = c.args.s.block.bytes.now in
    let h = (record_room c.args.mode b c.requires).1 in
    room_as (ap position_text c.position_of.ensures) (room_after (position_text (position_in (drop 28 b))) c.put_headers-n.ensures h)

pub overflow_add-m : goal.overflow_add-m
overflow_add-m c = sum_fits (then c.put_headers-n.ensures c.put_position.ensures) c.well_formed.0.0

pub slice_bounds-put_moves-count : goal.slice_bounds-put_moves-count
slice_bounds-put_moves-count c = within (then c.put_headers-n.ensures c.put_position.ensures)

pub slice_bounds-put_moves-start : goal.slice_bounds-put_moves-start
slice_bounds-put_moves-start c = slice_bounds-put_moves-count c

pub put_moves-requires : goal.put_moves-requires
put_moves-requires c =
    let b = c.args.s.block.bytes.now in
    let w = then c.put_headers-n.ensures (as_text (ap position_text c.position_of.ensures) c.put_position.ensures) in
    room_after (lines_text (said_lines c.args.mode (decode b).lines)) w (record_room c.args.mode b c.requires).2

pub returns : goal.returns
returns c =
    let w = then c.put_headers-n.ensures (as_text (ap position_text c.position_of.ensures) c.put_position.ensures) in
    as_text (sym (record_is c.args.mode c.args.s.block.bytes.now)) (then w c.put_moves.ensures)

pub overflow_add-result : goal.overflow_add-result
overflow_add-result c = sum_fits (returns c) c.well_formed.0.0
