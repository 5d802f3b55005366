-- Each turn takes the last digit off the number and counts it.
-- Assumes nothing.
use Prim.Native.Nat.{◌+◌, ◌≤◌}
use mathlib.Core.Path.{◌≡◌}
use lib.ListN.{length}
use Rattle.lent.specs.Numbers.{decimal}
use Rattle.lent.proofs.decimal_len.Given as goal

abbrev pub invariant-loop-rest : goal.invariant-loop-rest
invariant-loop-rest l = (length (decimal l.v) + 1 ≡ length (decimal l.rest) + l.n) × (l.n + l.rest ≤ l.v + 1)

abbrev pub decreases-loop-rest : goal.decreases-loop-rest
decreases-loop-rest l = l.rest
