-- Each turn passes one skip line more.
-- Assumes nothing.
use Rattle.plays.specs.Plays.{skips_at}
use lib.ListN.{length}
use mathlib.Core.Path.{◌≡◌}
use Prim.Native.Nat.{◌-◌}
use Rattle.plays.proofs.counts.skips.Given as goal

abbrev pub invariant-loop-past : goal.invariant-loop-past
invariant-loop-past l = skips_at l.s l.initial.next.at ≡ skips_at l.s l.next.at

abbrev pub decreases-loop-past : goal.decreases-loop-past
decreases-loop-past l = length l.s - l.next.at
