-- The loop's invariant: what `held_piece` makes of the numbers below `8 - kind` has been written.
-- Assumes nothing.
use Prim.Native.Nat.{◌-◌, ◌≤◌}
use Rattle.lent.specs.Bytes.{Wrote}
use Rattle.converter.proofs.Ranged.{up_to}
use Rattle.converter.proofs.Cased.{held_piece}
use Rattle.converter.proofs.starts.put_all_held.Given as goal

abbrev pub invariant-loop-kind : goal.invariant-loop-kind
invariant-loop-kind l = (1 ≤ l.kind) × Wrote (up_to (held_piece l.hands l.side) (8 - l.kind)) l.initial.out l.out l.at
