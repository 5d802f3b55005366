use Prim.Native.Nat.{ℕ, ◌+◌, ◌*◌, ◌≤◌}
use native.Mathlib.Omega.{arith}
use native.Mathlib.Nat.{mul-add, mul-one, mul-le-mul_left}
use mathlib.Core.Path.{sym}
use Rattle.lent.specs.Bytes.{le16}
use Rattle.block.proofs.Sums.{sum-none, sum_more}
use Rattle.block.proofs.fields.sum_in.Goals as goal

-- the row ends where the table does at the latest
pub pair-total-requires : goal.pair-total-requires
pair-total-requires c =
    let a = c.args in
    let l = c.loop-k in
    let h : l.k + 1 ≤ a.n = omega arith in
    omega (arith, mul-le-mul_left a.w h, mul-add a.w l.k 1, mul-one a.w)

pub loop-k-init : goal.loop-k-init
loop-k-init c = (sym (sum-none _), omega arith)

pub loop-k-preserved : goal.loop-k-preserved
loop-k-preserved c =
    let a = c.args in
    let f : ℕ → ℕ = λ j. le16 a.b.now (a.place + a.w * j) in
    (omega (arith, c.pair-total.ensures.0, sum_more f c.loop-k.k), omega (arith, c.pair-total.ensures.1))
