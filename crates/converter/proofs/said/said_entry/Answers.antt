-- Each arm is that of `said_entry`.
-- Assumes nothing.
use Rattle.converter.specs.Said.{said_entry}
use Rattle.converter.proofs.said.said_entry.Goals as goal

pub returns-in-Slot : goal.returns-in-Slot
unfolding said_entry
returns-in-Slot c = rw c.in-Slot.is

pub returns-in-Moved : goal.returns-in-Moved
unfolding said_entry
returns-in-Moved c = rw (c.in-Moved.is, ← c.said_move.ensures)

pub returns-in-End : goal.returns-in-End
unfolding said_entry
returns-in-End c = rw (c.in-End.is, ← c.said_time.ensures)
