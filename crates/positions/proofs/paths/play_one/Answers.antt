-- The answers are those of the definition, test by test.
-- Assumes nothing.
use Rattle.positions.specs.Paths.{play_one}
use Rattle.positions.proofs.paths.play_one.Goals as goal

pub returns-in_default : goal.returns-in_default
unfolding play_one
returns-in_default c = rw c.in_default.is

pub returns-in-Slot : goal.returns-in-Slot
unfolding play_one
returns-in-Slot c = rw (c.in-None.is, ← c.first_entry.ensures.0, ← c.entry_of.ensures, c.in-Slot.is)

pub returns-in-Moved : goal.returns-in-Moved
unfolding play_one
returns-in-Moved c = rw (c.in-None.is, ← c.first_entry.ensures.0, ← c.entry_of.ensures, c.in-Moved.is, ← c.play_move.ensures)

pub returns-in-End : goal.returns-in-End
unfolding play_one
returns-in-End c = rw (c.in-None.is, ← c.first_entry.ensures.0, ← c.entry_of.ensures, c.in-End.is)
