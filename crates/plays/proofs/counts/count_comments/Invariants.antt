-- Each turn counts one comment more and its bytes.
-- Assumes nothing.
use Rattle.plays.proofs.Counting.{Remarking}
use lib.ListN.{length}
use Prim.Native.Nat.{◌-◌}
use Rattle.plays.proofs.counts.count_comments.Given as goal

abbrev pub invariant-loop-next : goal.invariant-loop-next
invariant-loop-next l = Remarking l.s l.initial.next.at l.count l.bytes l.next.at

abbrev pub decreases-loop-next : goal.decreases-loop-next
decreases-loop-next l = length l.s - l.next.at
