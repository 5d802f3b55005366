-- The merge of the runs is what stands in the buffer, and the merge of what is left of them (`Merging`); where one has ended, that is the rest of the other.
-- Assumes nothing.
use Prim.Native.Nat.{◌+◌, ◌-◌}
use mathlib.Core.Path.{◌≡◌}
use lib.ListN.{length}
use Rattle.sorted.specs.inner.Packs.{by_pack}
use Rattle.sorted.proofs.Buffers.{Merging}
use Rattle.sorted.proofs.merge_runs.Given as goal

abbrev pub invariant-loop-i : goal.invariant-loop-i
invariant-loop-i l = Merging (by_pack l.s) l.a l.b l.out l.i l.j l.k × (length l.out ≡ length l.initial.out)

abbrev pub decreases-loop-i : goal.decreases-loop-i
decreases-loop-i l = (length l.a - l.i) + (length l.b - l.j)
