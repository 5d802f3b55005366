-- Each field is read as the definition reads it.
-- Assumes nothing.
use Rattle.block.specs.EntryBytes.{move_in}
use Rattle.block.proofs.entry_bytes.move_in.Goals as goal

pub returns : goal.returns
unfolding move_in
returns c = rw (c.peek.ensures, c.peek-2.ensures, c.peek-3.ensures, c.target_in.ensures, c.origin_in.ensures, c.time_in.ensures)
