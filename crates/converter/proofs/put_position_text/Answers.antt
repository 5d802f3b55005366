-- `position_length` says whether the text fits.
-- Assumes nothing.
use native.Mathlib.Omega.{arith}
use Rattle.lent.proofs.Writes.{unwritten, written}
use Rattle.converter.proofs.put_position_text.Goals as goal

pub returns-then-out-position_length : goal.returns-then-out-position_length
returns-then-out-position_length c = unwritten _ _ (omega arith)

pub returns : goal.returns
returns c = written c.put_position.ensures
