-- The upper part, Black's hand and the side to move, one after the other: room for the diagram is room for each.
-- Assumes nothing.
use mathlib.Core.List.{◌++◌}
use borrow.Author.Rules.{rules}
use Rattle.lent.proofs.Writes.{then, sum_fits, within}
use Rattle.converter.specs.Diagrams.{preset_line, hand_line_text, board_text, turn_text, diagram_text}
use Rattle.lent.proofs.Room.{room-front, room_after}
use Rattle.converter.proofs.starts.put_diagram.Goals as goal

pub put_upper-n-requires : goal.put_upper-n-requires
unfolding diagram_text
put_upper-n-requires c =
    let p = c.args.p in
    let t = (preset_line 16 ++ hand_line_text p.hands 1) ++ board_text p.cells in
    let u = hand_line_text p.hands 0 in
    room-front t u (room-front (t ++ u) (turn_text p.turn) c.requires)

pub slice_bounds-put_hand_line-count : goal.slice_bounds-put_hand_line-count
slice_bounds-put_hand_line-count c = within c.put_upper-n.ensures

pub slice_bounds-put_hand_line-start : goal.slice_bounds-put_hand_line-start
slice_bounds-put_hand_line-start c = slice_bounds-put_hand_line-count c

pub put_hand_line-requires : goal.put_hand_line-requires
unfolding diagram_text
put_hand_line-requires c =
    let p = c.args.p in
    let t = (preset_line 16 ++ hand_line_text p.hands 1) ++ board_text p.cells in
    let u = hand_line_text p.hands 0 in
    (search rules, room_after u c.put_upper-n.ensures (room-front (t ++ u) (turn_text p.turn) c.requires))

pub overflow_add-m : goal.overflow_add-m
overflow_add-m c = sum_fits (then c.put_upper-n.ensures c.put_hand_line.ensures) c.well_formed.0.0

pub slice_bounds-put_turn-count : goal.slice_bounds-put_turn-count
slice_bounds-put_turn-count c = within (then c.put_upper-n.ensures c.put_hand_line.ensures)

pub slice_bounds-put_turn-start : goal.slice_bounds-put_turn-start
slice_bounds-put_turn-start c = slice_bounds-put_turn-count c

pub put_turn-requires : goal.put_turn-requires
unfolding diagram_text
put_turn-requires c = room_after (turn_text c.args.p.turn) (then c.put_upper-n.ensures c.put_hand_line.ensures) c.requires

pub returns : goal.returns
unfolding diagram_text
returns c = then (then c.put_upper-n.ensures c.put_hand_line.ensures) c.put_turn.ensures

pub overflow_add-result : goal.overflow_add-result
overflow_add-result c = sum_fits (returns c) c.well_formed.0.0
