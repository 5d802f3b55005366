-- What is passed from the start is what is passed from here, and a turn passes a run.
-- Assumes nothing.
use Prim.Native.Nat.{◌-◌}
use mathlib.Core.Path.{◌≡◌}
use lib.ListN.{length}
use Rattle.text.specs.Text.{past_all}
use Rattle.text.specs.Utf8.{char_width}
use Rattle.text.proofs.utf8.well_formed.Given as goal

abbrev pub invariant-loop-at : goal.invariant-loop-at
invariant-loop-at l = past_all char_width l.s l.initial.at ≡ past_all char_width l.s l.at

abbrev pub decreases-loop-at : goal.decreases-loop-at
decreases-loop-at l = length l.s - l.at
