-- The number has room where all three have, and both figures have what is left.
-- Assumes nothing.
use Rattle.lent.proofs.Writes.{then}
use Rattle.shown.specs.Listing.{field, last_fields, refused_tag, space_tag, refusal_text}
use Rattle.lent.proofs.Room.{room-front, room_after}
use Rattle.shown.proofs.rows.put_figures.Goals as goal

pub put_field-n-requires : goal.put_field-n-requires
unfolding refusal_text
put_field-n-requires c =
    let a = c.args in
    room-front (field refused_tag a.number) (last_fields space_tag a.first space_tag a.second) c.requires

pub put_last-requires : goal.put_last-requires
unfolding refusal_text
put_last-requires c =
    let a = c.args in
    room_after (last_fields space_tag a.first space_tag a.second) c.put_field-n.ensures c.requires

pub returns : goal.returns
unfolding refusal_text
returns c = then c.put_field-n.ensures c.put_last.ensures
