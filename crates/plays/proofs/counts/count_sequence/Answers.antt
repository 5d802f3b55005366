-- What the loop counts in sequence.
-- Assumes nothing.
use Rattle.plays.specs.inner.Runs.{run_at}
use Rattle.plays.proofs.counts.count_sequence.Goals as goal

pub returns : goal.returns
unfolding run_at
returns c = c.count_run.ensures
