-- The tests are the definition's.
-- Assumes nothing.
use borrow.Author.Rules.{rules}
use Rattle.filling.specs.Filling.{has_comment}
use Rattle.filling.proofs.puts.has_comment.Goals as goal

pub returns-then-has_room-3 : goal.returns-then-has_room-3
unfolding has_comment
returns-then-has_room-3 c = search rules

pub returns-else-has_room-3 : goal.returns-else-has_room-3
unfolding has_comment
returns-else-has_room-3 c = search rules
