-- The mark and the kind: room for both is room for each.
-- Assumes nothing.
use Rattle.lent.proofs.Writes.{sum_fits, within}
use mathlib.Core.List.{[], ◌∷◌}
use Rattle.spell.specs.Spell.{spelled}
use Rattle.spell.specs.Tables.{kinds}
use Rattle.lent.proofs.Room.{two_of}
use Rattle.converter.proofs.starts.put_piece.Goals as goal

pub slice_bounds-put_board_kind-count : goal.slice_bounds-put_board_kind-count
slice_bounds-put_board_kind-count c = within c.put_bytes-n.ensures

pub slice_bounds-put_board_kind-start : goal.slice_bounds-put_board_kind-start
slice_bounds-put_board_kind-start c = slice_bounds-put_board_kind-count c

pub returns : goal.returns
returns c =
    let a = c.args in
    two_of (a.before ∷ []) (spelled kinds a.kind) c.requires c.put_bytes-n.ensures c.put_board_kind.ensures

pub overflow_add-result : goal.overflow_add-result
overflow_add-result c = sum_fits (returns c) c.well_formed.0.0
