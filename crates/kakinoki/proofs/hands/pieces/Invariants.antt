-- The pieces from the start make what the pieces from here on make, and a step that goes on goes past its place.
-- Assumes nothing.
use Prim.Native.Nat.{◌-◌}
use lib.ListN.{length}
use Rattle.kakinoki.proofs.Pieces.{Holding}
use Rattle.kakinoki.proofs.hands.pieces.Given as goal

abbrev pub invariant-loop-held : goal.invariant-loop-held
invariant-loop-held l = Holding l.s l.initial.next.at l.next.at l.counts

abbrev pub decreases-loop-held : goal.decreases-loop-held
decreases-loop-held l = length l.s - l.next.at
