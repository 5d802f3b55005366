-- Each turn counts one entry more with its comments, and the number that the next one must have is one more.
-- Assumes nothing.
use Rattle.plays.specs.inner.Runs.{run_at}
use Rattle.plays.proofs.Counting.{Extending}
use lib.ListN.{length}
use Prim.Native.Nat.{◌+◌, ◌-◌}
use Rattle.plays.proofs.counts.count_run.Given as goal

abbrev pub invariant-loop-past : goal.invariant-loop-past
invariant-loop-past l = Extending (run_at l.any l.n l.s l.initial.x.next.at) (run_at l.any (l.n + l.x.entries) l.s l.x.next.at) l.x

abbrev pub decreases-loop-past : goal.decreases-loop-past
decreases-loop-past l = length l.s - l.x.next.at
