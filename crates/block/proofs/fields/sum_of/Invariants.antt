-- The loop has added up k rows.
-- Assumes nothing.
use Prim.Native.Nat.{◌+◌, ◌*◌, ◌≤◌}
use mathlib.Core.Path.{◌≡◌}
use Rattle.lent.specs.Bytes.{le16}
use Rattle.block.specs.Sound.{sum}
use Rattle.block.proofs.fields.sum_of.Given as goal

abbrev pub invariant-loop-k : goal.invariant-loop-k
invariant-loop-k l = (l.total ≡ sum (λ j. le16 l.b (l.place + l.w * j)) l.k) × (l.total ≤ 65535 * l.k)
