-- From line q the climb ends where it does from the line before line k; each step goes to a line before.
-- Assumes nothing.
use Prim.Native.Nat.{suc, ◌-◌, ◌<◌}
use mathlib.Core.Path.{◌≡◌}
use Rattle.jkf.specs.inner.Climbing.{climb}
use Rattle.block.specs.Decode.{parent_of}
use Rattle.block.proofs.places.climb.Given as goal

abbrev pub invariant-loop-up : goal.invariant-loop-up
invariant-loop-up l = (l.q < l.k) × ((l.up ≡ parent_of l.b l.q) × (l.up < 65536)) × (climb (parent_of l.b) l.p l.k (l.k - 1) ≡ climb (parent_of l.b) l.p (suc l.q) l.q)

abbrev pub decreases-loop-up : goal.decreases-loop-up
decreases-loop-up l = l.q
