-- The loop's invariant: the number is how long the variations passed are, at most 19 for each and 4295032904 for each of their entries, which are at most those of the block.
-- Assumes nothing.
use Prim.Native.Nat.{◌+◌, ◌*◌, ◌-◌, ◌≤◌}
use mathlib.Core.Path.{◌≡◌}
use lib.ListN.{length}
use Rattle.block.specs.Sound.{entries_before}
use Rattle.block.specs.Decode.{run}
use Rattle.block.specs.Encode.{concat}
use Rattle.converter.specs.Show.{variation_text}
use Rattle.converter.specs.inner.Lines.{line_said}
use Rattle.converter.proofs.lengths.variations_length.Given as goal

abbrev pub invariant-loop-k : goal.invariant-loop-k
invariant-loop-k l = (1 ≤ l.k) × (l.k ≤ l.s.lines) × (l.n ≡ length (concat variation_text (run (line_said l.mode l.s.block.bytes.now) 1 (l.k - 1)))) × (l.n ≤ 19 * l.k + 4295032904 * entries_before l.s.block.bytes.now l.k)
