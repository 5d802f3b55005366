-- The answers of the steps, handed on as the definition hands them on.
-- Assumes nothing.
use Rattle.moves.specs.Moves.{clocks_at}
use Rattle.moves.proofs.clocks.two_clocks.Goals as goal

pub returns-in_default : goal.returns-in_default
unfolding clocks_at
returns-in_default c = rw (← c.spaced.ensures, c.in_default.is)

pub returns-in_default-tag : goal.returns-in_default-tag
unfolding clocks_at
returns-in_default-tag c = rw (← c.spaced.ensures, c.in-Some.is, ← c.tag.ensures, c.in_default-tag.is)

pub returns-in_default-spaced : goal.returns-in_default-spaced
unfolding clocks_at
returns-in_default-spaced c = rw (← c.spaced.ensures, c.in-Some.is, ← c.tag.ensures, c.in-Some-tag.is, ← c.spaced-2.ensures, c.in_default-spaced.is)

pub returns-in_default-tag-2 : goal.returns-in_default-tag-2
unfolding clocks_at
returns-in_default-tag-2 c = rw (← c.spaced.ensures, c.in-Some.is, ← c.tag.ensures, c.in-Some-tag.is, ← c.spaced-2.ensures, c.in-Some-spaced.is, ← c.tag-2.ensures, c.in_default-tag-2.is)

pub returns : goal.returns
unfolding clocks_at
returns c = rw (← c.spaced.ensures, c.in-Some.is, ← c.tag.ensures, c.in-Some-tag.is, ← c.spaced-2.ensures, c.in-Some-spaced.is, ← c.tag-2.ensures, c.in-Some-tag-2.is)
