-- A row that begins past the table's end has 0 for a count, as bytes there are 0; any other row's place is at most the table's length, so the product and the sum do not overflow.
-- Assumes nothing.
use Prim.Native.Nat.{◌+◌, ◌*◌}
use native.Mathlib.Omega.{arith}
use Rattle.jkf.proofs.Nears.{past_end}
use Rattle.jkf.proofs.attaching.count.Goals as goal

pub returns-then-lines-k : goal.returns-then-lines-k
returns-then-lines-k c =
    let a = c.args in
    past_end a.lines.now (8 * a.k + 4) (omega arith)
