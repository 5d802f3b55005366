-- The loop's invariant: the number is how long the comments passed are, at most 65537 each.
-- Assumes nothing.
use Prim.Native.Nat.{◌*◌, ◌≤◌}
use mathlib.Core.Path.{◌≡◌}
use lib.ListN.{length}
use Rattle.block.specs.Decode.{run, comment_of}
use Rattle.converter.specs.Entries.{remarks_text}
use Rattle.converter.proofs.lengths.remarks_length.Given as goal

abbrev pub invariant-loop-i : goal.invariant-loop-i
invariant-loop-i l = (l.i ≤ l.count) × (l.n ≡ length (remarks_text (run (comment_of l.b) l.first l.i))) × (l.n ≤ 65537 * l.i)
