-- The loop's invariant: the number is how many bytes the comments passed have, at most 65535 each.
-- Assumes nothing.
use Prim.Native.Nat.{◌*◌, ◌≤◌}
use mathlib.Core.Path.{◌≡◌}
use lib.ListN.{length}
use Rattle.block.specs.Encode.{comment_text}
use Rattle.block.specs.Decode.{run, comment_of}
use Rattle.edit.proofs.copies.comment_bytes.Given as goal

abbrev pub invariant-loop-i : goal.invariant-loop-i
invariant-loop-i l = (l.i ≤ l.count) × (l.n ≡ length (comment_text (run (comment_of l.b) l.first l.i))) × (l.n ≤ 65535 * l.i)
