-- The side, の持駒：, the hand and LF: room for the line is room for each piece.
-- Assumes nothing.
use mathlib.Core.List.{[], ◌∷◌, ◌++◌}
use Rattle.spell.specs.Spell.{spelled}
use Rattle.spell.specs.Tables.{sides}
use Rattle.spell.specs.Words.{hands_tag}
use Rattle.converter.specs.Diagrams.{all_held, or_none, hand_line_text}
use Rattle.lent.proofs.Writes.{then, within}
use Rattle.lent.proofs.Room.{room-front, room_after, then_stored, two_stored}
use Rattle.converter.proofs.starts.put_hand_line.Goals as goal

pub slice_bounds-put_hand-count : goal.slice_bounds-put_hand-count
unfolding hand_line_text
slice_bounds-put_hand-count c =
    let a = c.args in
    let s = spelled sides a.side in
    let t = or_none (all_held a.hands.now a.side) in
    let h = room-front (s ++ hands_tag) t (room-front ((s ++ hands_tag) ++ t) (10 ∷ []) c.requires.1) in
    within (two_stored s hands_tag h c.put_side-n.ensures c.put_at-m.ensures)

pub slice_bounds-put_hand-start : goal.slice_bounds-put_hand-start
slice_bounds-put_hand-start c = slice_bounds-put_hand-count c

pub put_hand-requires : goal.put_hand-requires
unfolding hand_line_text
put_hand-requires c =
    let a = c.args in
    let s = spelled sides a.side in
    let t = or_none (all_held a.hands.now a.side) in
    let h = room-front ((s ++ hands_tag) ++ t) (10 ∷ []) c.requires.1 in
    (c.requires.0, room_after t (two_stored s hands_tag (room-front (s ++ hands_tag) t h) c.put_side-n.ensures c.put_at-m.ensures) h)

pub returns : goal.returns
unfolding hand_line_text
returns c =
    let a = c.args in
    let s = spelled sides a.side in
    let t = or_none (all_held a.hands.now a.side) in
    let h = room-front (s ++ hands_tag) t (room-front ((s ++ hands_tag) ++ t) (10 ∷ []) c.requires.1) in
    let w = then (two_stored s hands_tag h c.put_side-n.ensures c.put_at-m.ensures) c.put_hand.ensures in
    then_stored (10 ∷ []) w c.requires.1 c.put_at.ensures
