-- Each field is read as the definition reads it.
-- Assumes nothing.
use Rattle.block.specs.PositionBytes.{position_in}
use Rattle.block.proofs.position_bytes.position_in.Goals as goal

pub returns : goal.returns
unfolding position_in
returns c = rw (c.peek.ensures, c.peek-2.ensures, c.peek-3.ensures, c.cells_in.ensures, c.hands_in.ensures)
