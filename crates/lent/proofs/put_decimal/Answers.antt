-- `decimal_len` says whether the digits fit.
-- Assumes nothing.
use native.Mathlib.Omega.{arith}
use Rattle.lent.proofs.Writes.{unwritten, written}
use Rattle.lent.proofs.put_decimal.Goals as goal

pub returns-then-out-decimal_len : goal.returns-then-out-decimal_len
returns-then-out-decimal_len c = unwritten _ _ (omega arith)

pub returns : goal.returns
returns c = written c.put_digits.ensures
