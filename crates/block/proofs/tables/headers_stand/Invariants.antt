-- The rows passed all stand, and their texts end at `at` (`Passing`).
-- Assumes nothing.
use Rattle.block.specs.Decode.{key_length, value_length}
use Rattle.block.proofs.Spans.{header_stands}
use Rattle.block.proofs.TablePasses.{Passed}
use Prim.Native.Nat.{◌+◌, ◌*◌, ◌≤◌}
use Rattle.block.proofs.tables.headers_stand.Given as goal

abbrev pub invariant-loop-k : goal.invariant-loop-k
invariant-loop-k l =
    (l.at ≤ 131070 * l.k) × Passed (header_stands l.b l.t) (λ j. key_length l.b j + value_length l.b j) 0 l.k l.at
