-- What is counted from the start is what is counted from here. A line goes on in the text, so that what is left of it falls.
-- Assumes nothing.
use Prim.Native.Nat.{◌-◌}
use lib.ListN.{length}
use Rattle.reader.proofs.Turns.{GoesOn}
use Rattle.reader.proofs.passed_over.Given as goal

abbrev pub invariant-loop-q : goal.invariant-loop-q
invariant-loop-q l = GoesOn l.text l.at l.p

abbrev pub decreases-loop-q : goal.decreases-loop-q
decreases-loop-q l = length l.text - l.p.end
