-- The invariant: the lines of the entries passed that have no leading key are written.
-- Assumes nothing.
use Prim.Native.Nat.{◌≤◌}
use Rattle.lent.specs.Bytes.{Wrote}
use Rattle.block.specs.Decode.{run, header_in}
use Rattle.converter.specs.Headers.{lines_of}
use Rattle.converter.proofs.starts.put_others.Given as goal

abbrev pub invariant-loop-k : goal.invariant-loop-k
invariant-loop-k l = (l.k ≤ l.count) × Wrote (lines_of 0 (run (header_in l.b) 0 l.k)) l.initial.out l.out l.at
