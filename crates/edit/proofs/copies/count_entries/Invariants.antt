-- The loop's invariant: the numbers are how many comments the entries passed have, at most 65535 each, and how many bytes these have, at most 65535 each.
-- Assumes nothing.
use Prim.Native.Nat.{◌*◌, ◌≤◌}
use mathlib.Core.Path.{◌≡◌}
use lib.ListN.{length}
use Rattle.block.specs.Encode.{comments_of, comment_text}
use Rattle.block.specs.Decode.{run, noted_in}
use Rattle.edit.proofs.copies.count_entries.Given as goal

abbrev pub invariant-loop-i : goal.invariant-loop-i
invariant-loop-i l =
    (l.i ≤ l.count) × (l.comments ≡ length (comments_of (run (noted_in l.b.bytes.now) l.k l.i))) × (l.bytes ≡ length (comment_text (comments_of (run (noted_in l.b.bytes.now) l.k l.i))))
    × (l.comments ≤ 65535 * l.i) × (l.bytes ≤ 4294967295 * l.i)
