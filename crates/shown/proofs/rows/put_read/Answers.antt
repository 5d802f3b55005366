-- The digits are counted before anything is written: a number below 2^64 has at most 20.
-- Assumes nothing.
use native.Mathlib.Omega.{arith}
use Rattle.lent.proofs.Writes.{unwritten}
use Rattle.lent.proofs.Digits.{digits_twenty}
use Rattle.shown.proofs.Texts.{read_length, read-room, read_wrote}
use Rattle.shown.proofs.rows.put_read.Goals as goal

pub overflow_add-decimal_len : goal.overflow_add-decimal_len
overflow_add-decimal_len c = omega (arith, digits_twenty c.args.taken (omega arith))

pub overflow_add-decimal_len-2 : goal.overflow_add-decimal_len-2
overflow_add-decimal_len-2 c = omega (arith, digits_twenty c.args.taken (omega arith), digits_twenty c.args.len (omega arith))

pub returns-then-out-decimal_len : goal.returns-then-out-decimal_len
returns-then-out-decimal_len c = unwritten _ _ (omega (arith, read_length c.args.taken c.args.len))

pub put_last-requires : goal.put_last-requires
put_last-requires c = read-room c.args.taken c.args.len (omega arith)

pub returns : goal.returns
returns c = read_wrote c.args.taken c.args.len c.put_last.ensures
