-- Where the four counts make sixteen, each is four, and the four runs are one (`sixteen-run`).
-- Assumes nothing.
use borrow.Author.Tests.{eqb-true}
use Rattle.text.proofs.Passing.{sixteen_run}
use Rattle.text.proofs.utf8.is_ascii.Goals as goal

pub returns : goal.returns
returns c = λ e. sixteen_run _ _ _ c.ascii_four.ensures c.ascii_four-2.ensures c.ascii_four-3.ensures c.ascii_four-4.ensures (eqb-true _ _ e)
