-- The first two fields have room where the line has, and the last two have what is left.
-- Assumes nothing.
use Rattle.lent.proofs.Writes.{then}
use Rattle.shown.specs.Listing.{fields, last_fields, line_tag, start_tag, moves_tag, parent_tag, row_text}
use Rattle.lent.proofs.Room.{room-front, room_after}
use Rattle.shown.proofs.rows.put_row.Goals as goal

pub put_fields-n-requires : goal.put_fields-n-requires
unfolding row_text
put_fields-n-requires c =
    let a = c.args in
    room-front (fields line_tag a.k start_tag a.start) (last_fields moves_tag a.moves parent_tag a.parent) c.requires

pub put_last-requires : goal.put_last-requires
unfolding row_text
put_last-requires c =
    let a = c.args in
    room_after {t₁ = fields line_tag a.k start_tag a.start} (last_fields moves_tag a.moves parent_tag a.parent) c.put_fields-n.ensures c.requires

pub returns : goal.returns
unfolding row_text
returns c = then c.put_fields-n.ensures c.put_last.ensures
