-- A slot is nothing, a move and an ending are as long as what they call says.
-- Assumes nothing.
use native.Mathlib.Omega.{arith}
use Rattle.converter.proofs.Lengthy.{slot-length, play-length, end-length}
use Rattle.converter.proofs.lengths.play_length.Goals as goal

pub returns-in-Slot : goal.returns-in-Slot
returns-in-Slot c = (slot-length c.in-Slot.is, omega arith)

pub returns-in-Moved : goal.returns-in-Moved
returns-in-Moved c = omega (arith, play-length c.in-Moved.is)

pub returns-in-End : goal.returns-in-End
returns-in-End c = omega (arith, end-length c.from.result c.in-End.is c.from.ensures)
