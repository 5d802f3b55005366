-- The test is the definition's.
-- Assumes nothing.
use borrow.Author.Tests.{lt-ltb, le-ltb}
use Rattle.converter.specs.inner.Usuals.{spaced}
use Rattle.converter.proofs.usuals.spaced.Goals as goal

pub returns-then-v-place : goal.returns-then-v-place
unfolding spaced
returns-then-v-place c = rw (lt-ltb _ _ c.if-v-place.true)

pub returns-else-v-place : goal.returns-else-v-place
unfolding spaced
returns-else-v-place c = rw (le-ltb _ _ c.if-v-place.false)
