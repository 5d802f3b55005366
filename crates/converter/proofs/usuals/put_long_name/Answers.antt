-- The bytes are those of the name (`long-text`): the first character is the kind's, and the second is chosen.
-- Assumes nothing.
use Rattle.lent.proofs.Writes.{low_byte}
use mathlib.Core.Path.{◌∙◌}
use Rattle.lent.proofs.Room.{bytes_of}
use Rattle.converter.proofs.Usually.{first_kind, second-kind, second-promoted, long-text}
use Rattle.converter.proofs.usuals.put_long_name.Goals as goal
use Rattle.converter.proofs.usuals.put_long_name.Goals.{then-e-gt9, else-e-gt9}

pub overflow_cast-k : goal.overflow_cast-k
overflow_cast-k c = low_byte _

pub overflow_cast-k-2 : goal.overflow_cast-k-2
overflow_cast-k-2 c = low_byte _

pub overflow_cast-k-3 : goal.overflow_cast-k-3
overflow_cast-k-3 c = low_byte _

pub overflow_cast-l : goal.overflow_cast-l
overflow_cast-l c = low_byte _

pub overflow_cast-l-2 : goal.overflow_cast-l-2
overflow_cast-l-2 c = low_byte _

pub overflow_cast-l-3 : goal.overflow_cast-l-3
overflow_cast-l-3 c = low_byte _

pub returns : goal.returns
returns c =
    let row = c.args.e.row.now in
    let u = c.args.e.usual in
    bytes_of (long-text row u c.kind_code-k.result c.if-e-gt9.l c.requires.0 (first_kind row u c.kind_code-k.ensures)
    (elim c.if-e-gt9.branch [ then-e-gt9 w ↦ second-kind row u w.if-e-gt9.true (w.l-is ∙ w.kind_code-l.ensures) | else-e-gt9 w ↦ second-promoted row u w.if-e-gt9.false w.l-is ])) c.requires.1 c.put_bytes.ensures
