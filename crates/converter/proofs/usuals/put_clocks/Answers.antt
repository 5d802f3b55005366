-- The bytes are those of the time (`clocks-text`); the minutes fill their tens with a space.
-- Assumes nothing.
use Rattle.lent.proofs.Room.{bytes_of}
use Rattle.converter.proofs.Usually.{blank_none, blank-some, clocks-text}
use Rattle.converter.proofs.usuals.put_clocks.Goals as goal
use Rattle.converter.proofs.usuals.put_clocks.Goals.{then-m-lt10, else-m-lt10}

pub returns : goal.returns
returns c =
    let row = c.args.e.row.now in
    bytes_of (clocks-text row c.args.e.usual
    (elim c.if-m-lt10.branch [ then-m-lt10 w ↦ blank_none w.if-m-lt10.true w.blank-is | else-m-lt10 w ↦ blank-some w.if-m-lt10.false w.blank-is ])) c.requires c.put_bytes.ensures
