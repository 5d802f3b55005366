-- Each turn puts one entry more with its comments, and counts a time that it lost.
-- Assumes nothing.
use Rattle.plays.proofs.Filled.{Entering}
use Rattle.plays.specs.Losses.{lost_from}
use lib.ListN.{length}
use mathlib.Core.Path.{◌≡◌}
use Prim.Native.Nat.{◌+◌, ◌-◌}
use Rattle.plays.proofs.fills.fill_moves.Given as goal

abbrev pub invariant-loop-line : goal.invariant-loop-line
invariant-loop-line l = Entering l.s l.initial.next.at l.next.at l.initial.walk l.walk l.initial.out l.out × (lost_from l.s l.initial.next.at ≡ l.lost + lost_from l.s l.next.at)

abbrev pub decreases-loop-line : goal.decreases-loop-line
decreases-loop-line l = length l.s - l.next.at
