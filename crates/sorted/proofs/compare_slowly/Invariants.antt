-- The keys compare as what is left of them: the heads differ and decide, or both keys have ended, or both go on with the same byte.
-- Assumes nothing.
use Prim.Native.Nat.{◌-◌}
use mathlib.Core.Path.{◌≡◌}
use lib.ListN.{length}
use Rattle.text.specs.Text.{key_at}
use Rattle.sorted.specs.Sorted.{by_bytes}
use Rattle.sorted.proofs.compare_slowly.Given as goal

abbrev pub invariant-loop-p : goal.invariant-loop-p
invariant-loop-p l = by_bytes (key_at l.s l.p) (key_at l.s l.q) ≡ by_bytes (key_at l.s l.i) (key_at l.s l.j)

abbrev pub decreases-loop-p : goal.decreases-loop-p
decreases-loop-p l = length l.s - l.i
