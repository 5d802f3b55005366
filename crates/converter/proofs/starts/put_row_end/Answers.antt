-- |, the numeral and LF: room for all is room for each.
-- Assumes nothing.
use Rattle.lent.proofs.Room.{three_stored}
use Prim.Native.Nat.{◌+◌}
use mathlib.Core.List.{[], ◌∷◌}
use Rattle.spell.specs.Spell.{spelled}
use Rattle.spell.specs.Tables.{numerals}
use Rattle.lent.proofs.Writes.{then, sum_fits, within}
use Rattle.converter.proofs.starts.put_row_end.Goals as goal

pub slice_bounds-put_numeral-count : goal.slice_bounds-put_numeral-count
slice_bounds-put_numeral-count c = within c.put_bytes-n.ensures

pub slice_bounds-put_numeral-start : goal.slice_bounds-put_numeral-start
slice_bounds-put_numeral-start c = slice_bounds-put_numeral-count c

pub overflow_add-m : goal.overflow_add-m
overflow_add-m c = sum_fits (then c.put_bytes-n.ensures c.put_numeral.ensures) c.well_formed.0.0

pub returns : goal.returns
returns c =
    three_stored (124 ∷ []) (spelled numerals (c.args.rank + 1)) (10 ∷ []) c.requires.1 c.put_bytes-n.ensures c.put_numeral.ensures c.put_at.ensures
