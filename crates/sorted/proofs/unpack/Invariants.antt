-- Up to here the buffer has the places of the packs, and from here on what it had.
-- Assumes nothing.
use Prim.Native.Nat.{◌≤◌}
use mathlib.Core.Path.{◌≡◌}
use mathlib.Core.List.{◌++◌, map}
use lib.ListN.{length, take, drop}
use Rattle.sorted.specs.inner.Packs.{pack_place}
use Rattle.sorted.proofs.unpack.Given as goal

abbrev pub invariant-loop-i : goal.invariant-loop-i
invariant-loop-i l = (length l.out ≡ length l.initial.out) × (l.n ≤ length l.from) × (l.n ≤ length l.initial.out) × (l.out ≡ take l.i (map pack_place (take l.n l.from)) ++ drop l.i l.initial.out)
