-- Four pieces one after another, each with its room.
-- Assumes nothing.
use mathlib.Core.List.{[], ◌∷◌}
use Rattle.lent.specs.Numbers.{decimal}
use Rattle.converter.proofs.Worded.{four}
use Rattle.lent.proofs.Writes.{then, sum_fits, within}
use Rattle.lent.proofs.Room.{two_of, then_piece, then_stored}
use Rattle.converter.proofs.kif.put_from.Goals as goal

pub slice_bounds-put_decimal-count : goal.slice_bounds-put_decimal-count
slice_bounds-put_decimal-count c = within c.put_bytes-n.ensures

pub slice_bounds-put_decimal-start : goal.slice_bounds-put_decimal-start
slice_bounds-put_decimal-start c = slice_bounds-put_decimal-count c

pub overflow_add-m : goal.overflow_add-m
overflow_add-m c = sum_fits (then c.put_bytes-n.ensures c.put_decimal.ensures) c.well_formed.0.0

pub slice_bounds-put_decimal-count-2 : goal.slice_bounds-put_decimal-count-2
slice_bounds-put_decimal-count-2 c = within (then c.put_bytes-n.ensures c.put_decimal.ensures)

pub slice_bounds-put_decimal-start-2 : goal.slice_bounds-put_decimal-start-2
slice_bounds-put_decimal-start-2 c = slice_bounds-put_decimal-count-2 c

pub overflow_add-e : goal.overflow_add-e
overflow_add-e c = sum_fits (then (then c.put_bytes-n.ensures c.put_decimal.ensures) c.put_decimal-2.ensures) c.well_formed.0.0

pub returns : goal.returns
returns c =
    let x = decimal c.args.x in
    let y = decimal c.args.y in
    let r = four (40 ∷ []) x y (41 ∷ []) c.requires in
    let w₂ = two_of (40 ∷ []) x r.1 c.put_bytes-n.ensures c.put_decimal.ensures in
    then_stored (41 ∷ []) (then_piece y w₂ r.2 c.put_decimal-2.ensures) c.requires c.put_at.ensures
