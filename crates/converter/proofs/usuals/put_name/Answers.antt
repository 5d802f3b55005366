-- A name of two characters is put by itself; the bytes of any other are its kind, its origin and spaces (`short-text`).
-- Assumes nothing.
use Rattle.lent.proofs.Writes.{low_byte}
use mathlib.Core.Path.{sym, ◌∙◌}
use Rattle.lent.proofs.Room.{bytes_of}
use Rattle.converter.proofs.Usually.{short-text}
use Rattle.converter.proofs.usuals.put_name.Goals as goal

pub put_long_name-requires : goal.put_long_name-requires
put_long_name-requires c = (sym c.is_long.ensures ∙ c.if-is_long.true, c.requires)

pub overflow_cast-k : goal.overflow_cast-k
overflow_cast-k c = low_byte _

pub overflow_cast-k-2 : goal.overflow_cast-k-2
overflow_cast-k-2 c = low_byte _

pub overflow_cast-k-3 : goal.overflow_cast-k-3
overflow_cast-k-3 c = low_byte _

pub returns : goal.returns
returns c =
    bytes_of (short-text c.args.e.row.now c.args.e.usual c.kind_code-k.result (sym c.is_long.ensures ∙ c.if-is_long.false) c.kind_code-k.ensures) c.requires c.put_bytes.ensures
