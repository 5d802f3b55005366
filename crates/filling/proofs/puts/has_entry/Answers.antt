-- The tests are the definition's.
-- Assumes nothing.
use borrow.Author.Rules.{rules}
use Rattle.filling.specs.Filling.{has_entry}
use Rattle.filling.proofs.puts.has_entry.Goals as goal

pub returns-then-has_room : goal.returns-then-has_room
unfolding has_entry
returns-then-has_room c = search rules

pub returns-else-has_room : goal.returns-else-has_room
unfolding has_entry
returns-else-has_room c = search rules
