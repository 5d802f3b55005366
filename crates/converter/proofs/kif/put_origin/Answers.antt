-- Each arm is that of `origin_text`.
-- Assumes nothing.
use Rattle.lent.proofs.Room.{bytes_of}
use mathlib.Core.Path.{sym, ap}
use Rattle.lent.proofs.Writes.{as_text}
use Rattle.converter.specs.Entries.{origin_text}
use Rattle.converter.proofs.Worded.{room_of}
use Rattle.converter.proofs.kif.put_origin.Goals as goal

pub put_from-requires : goal.put_from-requires
unfolding origin_text
put_from-requires c =
    room_of origin_text c.in-Some.is c.requires

pub returns-in-None : goal.returns-in-None
unfolding origin_text
returns-in-None c =
    bytes_of (ap origin_text (sym c.in-None.is)) c.requires c.put_bytes.ensures

pub returns-in-Some : goal.returns-in-Some
unfolding origin_text
returns-in-Some c =
    as_text (ap origin_text (sym c.in-Some.is)) c.put_from.ensures
