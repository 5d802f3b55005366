-- The three fields that a mode may say otherwise are asked, and the others stay.
-- Assumes nothing.
use Rattle.converter.specs.Said.{said_move}
use Rattle.converter.proofs.said.said_move.Goals as goal

pub returns : goal.returns
unfolding said_move
returns c = rw (← c.said_mark.ensures, ← c.said_origin.ensures, ← c.said_time.ensures)
