-- What is passed from the start is what is passed from here, and each line goes on within the text.
-- Assumes nothing.
use Prim.Native.Nat.{◌-◌}
use mathlib.Core.Path.{◌≡◌}
use lib.ListN.{length}
use Rattle.kakinoki.specs.Informations.{hash_lines_at}
use Rattle.kakinoki.proofs.infos.hash_lines.Given as goal

abbrev pub invariant-loop-past : goal.invariant-loop-past
invariant-loop-past l = hash_lines_at l.s l.initial.next.at ≡ hash_lines_at l.s l.next.at

abbrev pub decreases-loop-past : goal.decreases-loop-past
decreases-loop-past l = length l.s - l.next.at
