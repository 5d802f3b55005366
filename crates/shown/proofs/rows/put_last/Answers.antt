-- Both fields have room where the line has, and its end has what is left.
-- Assumes nothing.
use mathlib.Core.List.{[], ◌∷◌}
use Rattle.shown.specs.Listing.{fields}
use Rattle.lent.proofs.Room.{room-front, then_piece}
use Rattle.shown.proofs.rows.put_last.Goals as goal

pub put_fields-n-requires : goal.put_fields-n-requires
put_fields-n-requires c =
    let a = c.args in
    room-front (fields a.word.now a.v a.next.now a.w) (10 ∷ []) c.requires

pub returns : goal.returns
returns c = then_piece (10 ∷ []) c.put_fields-n.ensures c.requires c.put_bytes.ensures
