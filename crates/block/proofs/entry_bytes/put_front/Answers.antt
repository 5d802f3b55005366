-- An entry has 20 bytes always, so the test says whether they fit.
-- Assumes nothing.
use native.Mathlib.Omega.{arith}
use Rattle.block.proofs.EntriesBack.{entry_length}
use Rattle.lent.proofs.Writes.{unwritten, written}
use Rattle.block.proofs.entry_bytes.put_front.Goals as goal

pub returns-then-out-lt20 : goal.returns-then-out-lt20
returns-then-out-lt20 c =
    let a = c.args in
    unwritten _ _ (omega (arith, entry_length a.e a.first a.count))

pub returns : goal.returns
returns c = written c.put_parts.ensures
