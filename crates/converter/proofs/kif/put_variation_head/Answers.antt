-- The tag, the ply and the tag after it are written one after another; the whole fits, so each piece does.
-- Assumes nothing.
use Rattle.lent.proofs.Room.{three_stored}
use mathlib.Core.List.{◌∷◌}
use Rattle.lent.specs.Numbers.{decimal}
use Rattle.converter.specs.Show.{variation_head, variation_tag, ply_tag}
use Rattle.lent.proofs.Writes.{then, sum_fits, within}
use Rattle.converter.proofs.kif.put_variation_head.Goals as goal

pub slice_bounds-put_decimal-count : goal.slice_bounds-put_decimal-count
slice_bounds-put_decimal-count c = within c.put_bytes-n.ensures

pub slice_bounds-put_decimal-start : goal.slice_bounds-put_decimal-start
slice_bounds-put_decimal-start c = slice_bounds-put_decimal-count c

pub overflow_add-m : goal.overflow_add-m
overflow_add-m c = sum_fits (then c.put_bytes-n.ensures c.put_decimal.ensures) c.well_formed.0.0

pub returns : goal.returns
unfolding variation_head
returns c =
    three_stored (10 ∷ variation_tag) (decimal c.args.start) ply_tag c.requires c.put_bytes-n.ensures c.put_decimal.ensures c.put_at.ensures
