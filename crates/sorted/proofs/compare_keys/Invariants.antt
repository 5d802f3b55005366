-- Four bytes that are equal are passed, so the keys compare as what is left of them; where four differ their numbers tell, and the rest is compared slowly.
-- Assumes nothing.
use Prim.Native.Nat.{◌+◌, ◌≤◌}
use mathlib.Core.Path.{◌≡◌}
use lib.ListN.{length}
use Rattle.text.specs.Text.{key_at}
use Rattle.sorted.specs.Sorted.{by_bytes}
use Rattle.sorted.proofs.compare_keys.Given as goal

abbrev pub invariant-loop-left : goal.invariant-loop-left
invariant-loop-left l = (l.i + l.left ≤ length l.s) × (l.j + l.left ≤ length l.s) × (by_bytes (key_at l.s l.p) (key_at l.s l.q) ≡ by_bytes (key_at l.s l.i) (key_at l.s l.j))

abbrev pub decreases-loop-left : goal.decreases-loop-left
decreases-loop-left l = l.left
