-- The bytes are those of the ply and of the target (`start-text`); the two characters of the target are chosen alike.
-- Assumes nothing.
use Rattle.lent.proofs.Writes.{low_byte}
use native.Mathlib.Omega.{arith}
use mathlib.Core.Path.{◌∙◌}
use Rattle.lent.proofs.Room.{bytes_of}
use Rattle.converter.proofs.Usually.{file-same, file_square, rank_same, rank_square, start-text}
use Rattle.converter.proofs.usuals.put_start.Goals as goal
use Rattle.converter.proofs.usuals.put_start.Goals.{then-e-eq23, else-e-eq23, then-e-eq23-2, else-e-eq23-2}

pub overflow_add-file : goal.overflow_add-file
overflow_add-file c = omega (arith, (c.args.e.usual.target c.if-e-eq23.false).file)

pub overflow_cast-file-2 : goal.overflow_cast-file-2
overflow_cast-file-2 c = low_byte _

pub overflow_cast-file-3 : goal.overflow_cast-file-3
overflow_cast-file-3 c = low_byte _

pub overflow_cast-file-4 : goal.overflow_cast-file-4
overflow_cast-file-4 c = low_byte _

pub overflow_cast-rank : goal.overflow_cast-rank
overflow_cast-rank c = low_byte _

pub overflow_cast-rank-2 : goal.overflow_cast-rank-2
overflow_cast-rank-2 c = low_byte _

pub overflow_cast-rank-3 : goal.overflow_cast-rank-3
overflow_cast-rank-3 c = low_byte _

pub returns : goal.returns
returns c =
    let row = c.args.e.row.now in
    let u = c.args.e.usual in
    bytes_of (start-text row u c.if-e-eq23.file c.if-e-eq23-2.rank c.requires.0 c.spaced.ensures c.spaced-2.ensures
    (elim c.if-e-eq23.branch [ then-e-eq23 w ↦ file-same row u w.if-e-eq23.true w.file-is | else-e-eq23 w ↦ file_square row u w.if-e-eq23.false w.file-is ])
    (elim c.if-e-eq23-2.branch [ then-e-eq23-2 w ↦ rank_same row u w.if-e-eq23-2.true w.rank-is | else-e-eq23-2 w ↦ rank_square row u w.if-e-eq23-2.false (w.rank-is ∙ w.numeral_code-rank.ensures) ])) c.requires.1 c.put_bytes.ensures
