-- What the block says is below 65,536, so each number has at most 5 digits and the line at most 48 bytes.
-- Assumes nothing.
use native.Mathlib.Omega.{arith}
use Rattle.lent.proofs.Writes.{as_text}
use Rattle.shown.proofs.Texts.{row_room, line_is}
use Rattle.shown.proofs.put_line.Goals as goal

pub put_row-requires : goal.put_row-requires
put_row-requires c = row_room _ _ _ _ _ (omega arith) (omega arith) (omega arith) (omega arith) (omega arith)

pub returns : goal.returns
returns c =
    let a = c.args in
    let w = c.put_row.ensures in (
      as_text (line_is a.b.now a.k c.start_of-start.ensures.0 c.entry_count-moves.ensures.0 c.parent_of-parent.ensures.0) w,
      omega (arith, w.count, row_room a.k c.start_of-start.result c.entry_count-moves.result c.parent_of-parent.result 48 (omega arith) (omega arith) (omega arith) (omega arith) (omega arith)),
    )
