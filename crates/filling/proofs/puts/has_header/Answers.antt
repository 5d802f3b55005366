-- The tests are the definition's.
-- Assumes nothing.
use borrow.Author.Rules.{rules}
use Rattle.filling.specs.Filling.{has_header}
use Rattle.filling.proofs.puts.has_header.Goals as goal

pub returns-then-has_room-4 : goal.returns-then-has_room-4
unfolding has_header
returns-then-has_room-4 c = search rules

pub returns-else-has_room-4 : goal.returns-else-has_room-4
unfolding has_header
returns-else-has_room-4 c = search rules
