-- The three parts one after the other: room for all is room for each.
-- Assumes nothing.
use mathlib.Core.List.{◌++◌}
use borrow.Author.Rules.{rules}
use Rattle.lent.proofs.Writes.{then, sum_fits, within}
use Rattle.converter.specs.Diagrams.{preset_line, hand_line_text, board_text}
use Rattle.lent.proofs.Room.{room-front, room_after}
use Rattle.converter.proofs.starts.put_upper.Goals as goal

pub put_preset_line-n-requires : goal.put_preset_line-n-requires
put_preset_line-n-requires c =
    let p = c.args.p in
    room-front (preset_line 16) (hand_line_text p.hands 1) (room-front (preset_line 16 ++ hand_line_text p.hands 1) (board_text p.cells) c.requires)

pub slice_bounds-put_hand_line-count : goal.slice_bounds-put_hand_line-count
slice_bounds-put_hand_line-count c = within c.put_preset_line-n.ensures

pub slice_bounds-put_hand_line-start : goal.slice_bounds-put_hand_line-start
slice_bounds-put_hand_line-start c = slice_bounds-put_hand_line-count c

pub put_hand_line-requires : goal.put_hand_line-requires
put_hand_line-requires c =
    let p = c.args.p in
    let t = hand_line_text p.hands 1 in
    (search rules, room_after t c.put_preset_line-n.ensures (room-front (preset_line 16 ++ t) (board_text p.cells) c.requires))

pub overflow_add-m : goal.overflow_add-m
overflow_add-m c = sum_fits (then c.put_preset_line-n.ensures c.put_hand_line.ensures) c.well_formed.0.0

pub slice_bounds-put_board-count : goal.slice_bounds-put_board-count
slice_bounds-put_board-count c = within (then c.put_preset_line-n.ensures c.put_hand_line.ensures)

pub slice_bounds-put_board-start : goal.slice_bounds-put_board-start
slice_bounds-put_board-start c = slice_bounds-put_board-count c

pub put_board-requires : goal.put_board-requires
put_board-requires c = room_after (board_text c.args.p.cells) (then c.put_preset_line-n.ensures c.put_hand_line.ensures) c.requires

pub returns : goal.returns
returns c = then (then c.put_preset_line-n.ensures c.put_hand_line.ensures) c.put_board.ensures

pub overflow_add-result : goal.overflow_add-result
overflow_add-result c = sum_fits (returns c) c.well_formed.0.0
