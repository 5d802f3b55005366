-- The invariant: places hold the leading keys of the entries passed. An entry's key is not that of one before it, since keys ascend.
-- Assumes nothing.
use Prim.Native.Nat.{◌≤◌}
use Rattle.converter.proofs.Heading.{PlacedTo}
use Rattle.converter.proofs.starts.leading_places.Given as goal

abbrev pub invariant-loop-k : goal.invariant-loop-k
invariant-loop-k l = (l.k ≤ l.count) × PlacedTo l.b.bytes.now l.places l.k
