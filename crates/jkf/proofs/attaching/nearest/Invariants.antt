-- The search from line j on finds what the search from the last line on finds: from a line that starts above s both go on at its parent.
-- Assumes nothing.
use Prim.Native.Nat.{suc, ◌<◌}
use mathlib.Core.Path.{◌≡◌}
use Rattle.jkf.specs.Following.{follow, followed}
use Rattle.jkf.proofs.attaching.nearest.Given as goal

abbrev pub invariant-loop-p : goal.invariant-loop-p
invariant-loop-p l = (l.j < l.k) × (followed l.lines l.s l.k ≡ follow l.lines l.s (suc l.j) l.j)

abbrev pub decreases-loop-p : goal.decreases-loop-p
decreases-loop-p l = l.j
