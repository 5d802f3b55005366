-- The digits from the start make the number that those from here make after n (`Reading`). Past the largest value no further digit helps.
-- Assumes nothing.
use Prim.Native.Nat.{◌-◌}
use lib.ListN.{length}
use Rattle.text.specs.inner.Runs.{Reading}
use Rattle.text.proofs.digits_on.Given as goal

abbrev pub invariant-loop-d : goal.invariant-loop-d
invariant-loop-d l = Reading l.largest l.s l.start l.at l.n

abbrev pub decreases-loop-d : goal.decreases-loop-d
decreases-loop-d l = length l.s - l.at
