-- The comments passed all stand, and their texts end at `at` (`Passing`).
-- Assumes nothing.
use Prim.Native.Nat.{◌+◌, ◌*◌, ◌≤◌}
use Rattle.block.specs.Decode.{headers_in, comment_length}
use Rattle.block.specs.Sound.{header_bytes}
use Rattle.block.proofs.TablePasses.{Passed}
use Rattle.block.proofs.Spans.{comment_stands}
use Rattle.block.proofs.tables.comments_stand.Given as goal

abbrev pub invariant-loop-k : goal.invariant-loop-k
invariant-loop-k l =
    (l.at ≤ 8600000000 + 65535 * l.k) × Passed (comment_stands l.b l.t) (comment_length l.b) (header_bytes l.b (headers_in l.b)) l.k l.at
