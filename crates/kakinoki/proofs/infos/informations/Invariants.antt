-- What the block says from the start is what it has said by now and what it says from here; each line goes on within the text.
-- Assumes nothing.
use Prim.Native.Nat.{◌-◌}
use lib.ListN.{length}
use Rattle.kakinoki.proofs.Blocks.{Saying}
use Rattle.kakinoki.proofs.infos.informations.Given as goal

abbrev pub invariant-loop-said : goal.invariant-loop-said
invariant-loop-said l = Saying l.s l.initial.next.at l.initial.places l.told l.headers l.next.at l.places

abbrev pub decreases-loop-said : goal.decreases-loop-said
decreases-loop-said l = length l.s - l.next.at
