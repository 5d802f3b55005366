-- A line's number has 16 bits.
-- Assumes nothing.
use Rattle.std.proofs.Common.{◌<◌}
use Rattle.kifu.proofs.trees.depth.Given as goal

abbrev pub invariant-loop-d : goal.invariant-loop-d
invariant-loop-d l = l.line < 65536
