-- Each arm writes the clock that it finds.
-- Assumes nothing.
use mathlib.Core.Path.{sym, ap}
use Rattle.lent.proofs.Writes.{as_text}
use Rattle.converter.specs.Entries.{clock_text}
use Rattle.converter.proofs.Worded.{room_of}
use Rattle.converter.proofs.kif.put_clock.Goals as goal

pub put_hms-requires : goal.put_hms-requires
put_hms-requires c =
    let a = c.args in
    room_of (clock_text a.fill a.after) c.in-Hms.is c.requires

pub put_ms-requires : goal.put_ms-requires
put_ms-requires c =
    let a = c.args in
    room_of (clock_text a.fill a.after) c.in-Ms.is c.requires

pub returns-in-Hms : goal.returns-in-Hms
returns-in-Hms c =
    let a = c.args in
    as_text (ap (clock_text a.fill a.after) (sym c.in-Hms.is)) c.put_hms.ensures

pub returns-in-Ms : goal.returns-in-Ms
returns-in-Ms c =
    let a = c.args in
    as_text (ap (clock_text a.fill a.after) (sym c.in-Ms.is)) c.put_ms.ensures
