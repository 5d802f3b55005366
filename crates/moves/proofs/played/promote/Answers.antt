-- The answers of the steps, handed on as the definition hands them on.
-- Assumes nothing.
use Rattle.moves.specs.Moves.{promote_at}
use Rattle.moves.proofs.played.promote.Goals as goal

pub returns-in_default-tag : goal.returns-in_default-tag
unfolding promote_at
returns-in_default-tag c = rw (← c.tag.ensures, c.in_default.is, ← c.tag-in_default.ensures, c.in_default-tag.is)

pub returns-in_default : goal.returns-in_default
unfolding promote_at
returns-in_default c = rw (← c.tag.ensures, c.in_default.is, ← c.tag-in_default.ensures, c.in-Some-tag.is)

pub returns : goal.returns
unfolding promote_at
returns c = rw (← c.tag.ensures, c.in-Some.is)
