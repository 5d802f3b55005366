-- Each turn passes one line more (`Walked`): its row is in the table, and it hangs.
-- Assumes nothing.
use Prim.Native.Nat.{◌-◌}
use lib.ListN.{length}
use Rattle.stops.proofs.Walking.{Walked}
use Rattle.stops.proofs.walks.walk.Given as goal

abbrev pub invariant-loop-at : goal.invariant-loop-at
invariant-loop-at l = Walked l.s l.begin.at l.k l.gone.next.at l.gone.end.at l.rows

abbrev pub decreases-loop-at : goal.decreases-loop-at
decreases-loop-at l = length l.s - l.gone.next.at
