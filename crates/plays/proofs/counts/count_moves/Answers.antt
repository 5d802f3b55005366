-- What the loop counts of any numbers.
-- Assumes nothing.
use Rattle.plays.specs.inner.Runs.{run_at}
use Rattle.plays.proofs.counts.count_moves.Goals as goal

pub returns : goal.returns
unfolding run_at
returns c = c.count_run.ensures
