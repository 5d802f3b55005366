-- The mark 1 decides as in the definition, and the bytes are read at the same places.
-- Assumes nothing.
use borrow.Author.Rules.{rules}
use Rattle.block.specs.EntryBytes.{origin_in}
use Rattle.block.proofs.entry_bytes.origin_in.Goals as goal

pub returns-then-peek-eq1 : goal.returns-then-peek-eq1
unfolding origin_in
returns-then-peek-eq1 c = search rules

pub returns-else-peek-eq1 : goal.returns-else-peek-eq1
unfolding origin_in
returns-else-peek-eq1 c = search rules
