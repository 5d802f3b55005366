-- No more times are lost than lines were passed.
-- Assumes nothing.
use Rattle.std.proofs.Common.{◌≤◌}
use Rattle.kifu.proofs.times.run_from.Given as goal

abbrev pub invariant-loop-k : goal.invariant-loop-k
invariant-loop-k l = l.lost ≤ l._k
