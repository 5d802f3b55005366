-- |, the cells and what ends the row: room for the row is room for each piece.
-- Assumes nothing.
use Prim.Native.Nat.{◌+◌}
use mathlib.Core.List.{[], ◌∷◌, ◌++◌}
use Rattle.lent.proofs.Writes.{then, sum_fits, within}
use Rattle.spell.specs.Spell.{spelled}
use Rattle.spell.specs.Tables.{numerals}
use Rattle.converter.specs.Diagrams.{cells_text, board_row}
use Rattle.lent.proofs.Room.{room-front, room_after, first-of}
use Rattle.converter.proofs.starts.put_row.Goals as goal

pub slice_bounds-put_cells-count : goal.slice_bounds-put_cells-count
slice_bounds-put_cells-count c = within c.put_bytes-n.ensures

pub slice_bounds-put_cells-start : goal.slice_bounds-put_cells-start
slice_bounds-put_cells-start c = slice_bounds-put_cells-count c

pub put_cells-requires : goal.put_cells-requires
unfolding board_row
put_cells-requires c =
    let a = c.args in
    let t = cells_text a.cells.now a.rank in
    let h = room-front ((124 ∷ []) ++ t) (((124 ∷ []) ++ spelled numerals (a.rank + 1)) ++ (10 ∷ [])) c.requires.1 in
    (c.requires.0, room_after t (first-of (124 ∷ []) t h c.put_bytes-n.ensures) h)

pub overflow_add-m : goal.overflow_add-m
overflow_add-m c = sum_fits (then c.put_bytes-n.ensures c.put_cells.ensures) c.well_formed.0.0

pub slice_bounds-put_row_end-count : goal.slice_bounds-put_row_end-count
slice_bounds-put_row_end-count c = within (then c.put_bytes-n.ensures c.put_cells.ensures)

pub slice_bounds-put_row_end-start : goal.slice_bounds-put_row_end-start
slice_bounds-put_row_end-start c = slice_bounds-put_row_end-count c

pub put_row_end-requires : goal.put_row_end-requires
unfolding board_row
put_row_end-requires c =
    let a = c.args in
    let t = cells_text a.cells.now a.rank in
    let e = ((124 ∷ []) ++ spelled numerals (a.rank + 1)) ++ (10 ∷ []) in
    let h = c.requires.1 in
    (c.requires.0, room_after e (then (first-of (124 ∷ []) t (room-front ((124 ∷ []) ++ t) e h) c.put_bytes-n.ensures) c.put_cells.ensures) h)

pub returns : goal.returns
unfolding board_row
returns c =
    let a = c.args in
    let t = cells_text a.cells.now a.rank in
    let h = room-front ((124 ∷ []) ++ t) (((124 ∷ []) ++ spelled numerals (a.rank + 1)) ++ (10 ∷ [])) c.requires.1 in
    then (then (first-of (124 ∷ []) t h c.put_bytes-n.ensures) c.put_cells.ensures) c.put_row_end.ensures

pub overflow_add-result : goal.overflow_add-result
overflow_add-result c = sum_fits (returns c) c.well_formed.0.0
