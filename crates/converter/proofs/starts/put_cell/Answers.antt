-- The cases of `cell_text`; a cell of 15 is White's with kind 0, as `15 - 16` is 0.
-- Assumes nothing.
use native.Mathlib.Omega.{arith}
use mathlib.Core.Path.{sym, ap}
use lib.ListN.{length}
use Rattle.lent.proofs.Writes.{as_text, wrote_all}
use Rattle.converter.proofs.Cased.{cell_empty, cell_black, cell_white}
use Rattle.converter.proofs.starts.put_cell.Goals as goal

pub returns-in-0 : goal.returns-in-0
returns-in-0 c =
    let e = cell_empty c.args.v c.in-0.is in
    as_text (sym e) (wrote_all (omega (arith, ap length e, c.requires)) c.put_bytes.ensures)

pub put_piece-requires : goal.put_piece-requires
put_piece-requires c = omega (arith, ap length (cell_black c.args.v (omega arith) (omega arith)), c.requires)

pub returns-in-1-to-14 : goal.returns-in-1-to-14
returns-in-1-to-14 c = as_text (sym (cell_black c.args.v (omega arith) (omega arith))) c.put_piece.ensures

pub put_piece-requires-in_default : goal.put_piece-requires-in_default
put_piece-requires-in_default c = omega (arith, ap length (cell_white c.args.v c.saturating_sub.result (omega arith) c.saturating_sub.ensures), c.requires)

pub returns-in_default : goal.returns-in_default
returns-in_default c = as_text (sym (cell_white c.args.v c.saturating_sub.result (omega arith) c.saturating_sub.ensures)) c.put_piece-in_default.ensures
