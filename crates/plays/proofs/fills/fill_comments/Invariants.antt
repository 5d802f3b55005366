-- Each turn puts one comment more.
-- Assumes nothing.
use Rattle.plays.proofs.Filled.{Commenting}
use lib.ListN.{length}
use Prim.Native.Nat.{◌-◌}
use Rattle.plays.proofs.fills.fill_comments.Given as goal

abbrev pub invariant-loop-walk : goal.invariant-loop-walk
invariant-loop-walk l = Commenting l.s l.initial.next.at l.next.at l.initial.walk l.walk l.initial.out l.out

abbrev pub decreases-loop-walk : goal.decreases-loop-walk
decreases-loop-walk l = length l.s - l.next.at
