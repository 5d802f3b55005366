-- The head lines, the rows and the foot line: room for the board is room for each piece.
-- Assumes nothing.
-- both head lines
use Prim.Native.Nat.{ℕ}
use mathlib.Core.List.{List, [], ◌∷◌, ◌++◌}
use Rattle.spell.specs.Words.{files_tag, rule_tag}
use Rattle.converter.specs.Diagrams.{board_rows, board_text}
use Rattle.lent.proofs.Writes.{then, sum_fits, within}
use Rattle.lent.proofs.Room.{room-front, room_after, first-of, then_stored}
use Rattle.converter.proofs.starts.put_board.Goals as goal

abbrev head : List ℕ
head = ((files_tag ++ (10 ∷ [])) ++ rule_tag) ++ (10 ∷ [])

pub slice_bounds-put_rows-count : goal.slice_bounds-put_rows-count
slice_bounds-put_rows-count c = within c.put_bytes-n.ensures

pub slice_bounds-put_rows-start : goal.slice_bounds-put_rows-start
slice_bounds-put_rows-start c = slice_bounds-put_rows-count c

pub put_rows-requires : goal.put_rows-requires
unfolding board_text
put_rows-requires c =
    let t = board_rows c.args.cells.now in
    let h = room-front (head ++ t) (rule_tag ++ (10 ∷ [])) c.requires in
    room_after t (first-of head t h c.put_bytes-n.ensures) h

pub overflow_add-m : goal.overflow_add-m
overflow_add-m c = sum_fits (then c.put_bytes-n.ensures c.put_rows.ensures) c.well_formed.0.0

pub returns : goal.returns
unfolding board_text
returns c =
    let t = board_rows c.args.cells.now in
    let h = room-front (head ++ t) (rule_tag ++ (10 ∷ [])) c.requires in
    let w = then (first-of head t h c.put_bytes-n.ensures) c.put_rows.ensures in
    then_stored (rule_tag ++ (10 ∷ [])) w c.requires c.put_at.ensures
