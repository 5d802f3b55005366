-- The word has room where both have, and the number has what is left.
-- Assumes nothing.
use Rattle.lent.specs.Numbers.{decimal}
use Rattle.lent.proofs.Writes.{wrote_all}
use Rattle.lent.proofs.Room.{room-front, then_piece}
use Rattle.shown.proofs.rows.put_field.Goals as goal

pub returns : goal.returns
returns c =
    let a = c.args in
    then_piece (decimal a.v) (wrote_all {t = a.word.now} (room-front a.word.now (decimal a.v) c.requires) c.put_bytes-n.ensures) c.requires c.put_decimal.ensures
