-- The answers of the steps, handed on as the definition hands them on.
-- Assumes nothing.
use Rattle.moves.specs.Lost.{over_at}
use Rattle.moves.proofs.lost.over.Goals as goal

pub returns-in_default : goal.returns-in_default
unfolding over_at
returns-in_default c = rw (← c.tag.ensures, c.in_default.is)

pub returns-then-clock_over : goal.returns-then-clock_over
unfolding over_at
returns-then-clock_over c = rw (← c.tag.ensures, c.in-Some.is, ← c.blanks.ensures, ← c.clock_over.ensures, c.if-clock_over.true)

pub returns-in_default-spaced : goal.returns-in_default-spaced
unfolding over_at
returns-in_default-spaced c = rw (← c.tag.ensures, c.in-Some.is, ← c.blanks.ensures, ← c.clock_over.ensures, c.if-clock_over.false, ← c.spaced.ensures, c.in_default-spaced.is)

pub returns-in_default-tag : goal.returns-in_default-tag
unfolding over_at
returns-in_default-tag c = rw (← c.tag.ensures, c.in-Some.is, ← c.blanks.ensures, ← c.clock_over.ensures, c.if-clock_over.false, ← c.spaced.ensures, c.in-Some-spaced.is, ← c.tag-2.ensures, c.in_default-tag.is)

pub returns : goal.returns
unfolding over_at
returns c = rw (← c.tag.ensures, c.in-Some.is, ← c.blanks.ensures, ← c.clock_over.ensures, c.if-clock_over.false, ← c.spaced.ensures, c.in-Some-spaced.is, ← c.tag-2.ensures, c.in-Some-tag.is, ← c.blanks-2.ensures, ← c.clock_over-2.ensures)
