-- The first field has room where both have, and the second has what is left.
-- Assumes nothing.
use Rattle.lent.proofs.Writes.{then}
use Rattle.shown.specs.Listing.{field}
use Rattle.lent.proofs.Room.{room-front, room_after}
use Rattle.shown.proofs.rows.put_fields.Goals as goal

pub put_field-n-requires : goal.put_field-n-requires
put_field-n-requires c =
    let a = c.args in
    room-front (field a.word.now a.v) (field a.next.now a.w) c.requires

pub put_field-requires : goal.put_field-requires
put_field-requires c =
    let a = c.args in
    room_after (field a.next.now a.w) c.put_field-n.ensures c.requires

pub returns : goal.returns
returns c = then c.put_field-n.ensures c.put_field.ensures
