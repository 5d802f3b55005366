-- The test is that of the definition.
-- Assumes nothing.
use borrow.Author.Rules.{rules}
use borrow.Author.Tests.{eq-eqb, ne_eqb}
use Rattle.sorted.specs.inner.Packs.{lead_told}
use Rattle.sorted.proofs.told.Goals as goal

pub returns-then-l-eq0 : goal.returns-then-l-eq0
unfolding lead_told
returns-then-l-eq0 c = rw (eq-eqb _ _ c.if-l-eq0.true) (search rules)

pub returns-else-l-eq0 : goal.returns-else-l-eq0
unfolding lead_told
returns-else-l-eq0 c = rw (ne_eqb _ _ c.if-l-eq0.false) (search rules)
