-- Where the four counts make sixteen, each is four, and the four runs are one (`sixteen-run`).
-- Assumes nothing.
use borrow.Author.Tests.{eqb-true}
use Rattle.text.proofs.Passing.{sixteen_run}
use Rattle.text.proofs.is_plain.Goals as goal

pub returns : goal.returns
returns c = λ e. sixteen_run _ _ _ c.plain_four.ensures c.plain_four-2.ensures c.plain_four-3.ensures c.plain_four-4.ensures (eqb-true _ _ e)
