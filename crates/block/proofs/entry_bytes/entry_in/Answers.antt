-- The first byte decides as in the definition: 0 the slot, 2 an ending, and else a move.
-- Assumes nothing.
use borrow.Author.Rules.{rules}
use Rattle.block.specs.EntryBytes.{entry_in}
use Rattle.block.proofs.entry_bytes.entry_in.Goals as goal

pub returns-in-0 : goal.returns-in-0
unfolding entry_in
returns-in-0 c = search rules

pub returns-in-2 : goal.returns-in-2
unfolding entry_in
returns-in-2 c = search rules

pub returns-in_default : goal.returns-in_default
unfolding entry_in
returns-in_default c = search rules
