-- The tests are the definition's, in its order.
-- Assumes nothing.
use borrow.Author.Tests.{le-leb, lt-leb}
use Rattle.moves.specs.Failing.{comment_fail}
use Rattle.moves.proofs.reasons.comment_fails.Goals as goal

pub returns-then-s-c : goal.returns-then-s-c
unfolding comment_fail
returns-then-s-c c = rw (le-leb _ _ c.if-s-c.true)

pub returns-then-not-begins_comment : goal.returns-then-not-begins_comment
unfolding comment_fail
returns-then-not-begins_comment c = rw (lt-leb _ _ c.if-s-c.false, ← c.begins_comment.ensures, c.if-not-begins_comment.true)

pub returns : goal.returns
unfolding comment_fail
returns c = rw (lt-leb _ _ c.if-s-c.false, ← c.begins_comment.ensures, c.if-not-begins_comment.false) c.line_end_fails.ensures
