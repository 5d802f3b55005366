-- The ends are past the texts, and of the empty text nothing is well formed: antt computes it.
-- Assumes nothing.
use borrow.Author.Tests.{eq-eqb}
use Rattle.text.specs.Text.{past_all}
use Rattle.lists.specs.Repeat.{repeat_from}
use Rattle.edges.proofs.main.Goals as goal

pub expect-requires : goal.expect-requires
unfolding past_all repeat_from
expect-requires c = eq-eqb c.well_formed-2.result 0 c.well_formed-2.ensures
