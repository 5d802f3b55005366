-- The loop's invariant: what `cell_piece` makes of the numbers below `9 - file` has been written.
-- Assumes nothing.
use Prim.Native.Nat.{◌-◌}
use Rattle.lent.specs.Bytes.{Wrote}
use Rattle.converter.proofs.Ranged.{up_to}
use Rattle.converter.proofs.Cased.{cell_piece}
use Rattle.converter.proofs.starts.put_cells.Given as goal

abbrev pub invariant-loop-file : goal.invariant-loop-file
invariant-loop-file l = Wrote (up_to (cell_piece l.cells l.rank) (9 - l.file)) l.initial.out l.out l.at
