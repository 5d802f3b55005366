-- The rest of the buffer from the place on is lent to `put_front`; past the end nothing is stored.
-- Assumes nothing.
use Rattle.lent.proofs.Regions.{stored_none, stored_part}
use Rattle.block.specs.EntryBytes.{entry_bytes}
use Rattle.block.proofs.entry_bytes.put_entry_row.Goals as goal

pub returns-then-out-at : goal.returns-then-out-at
returns-then-out-at c = let a = c.args in stored_none (entry_bytes a.e a.first a.count) a.out.now a.at c.if-out-at.true

pub returns : goal.returns
returns c = let a = c.args in stored_part (entry_bytes a.e a.first a.count) c.if-out-at.false c.put_front.ensures
