use Prim.Native.Nat.{ℕ, ◌+◌, ◌*◌, ◌≤◌}
use native.Mathlib.Omega.{arith}
use native.Mathlib.Nat.{mul-le-mul_right}
use mathlib.Core.Path.{sym}
use Rattle.lent.specs.Bytes.{le16}
use Rattle.block.proofs.Sums.{sum-none, sum_more}
use Rattle.block.proofs.fields.sum_of.Goals as goal

pub overflow_mul-w : goal.overflow_mul-w
overflow_mul-w c =
    let a = c.args in
    let h : a.w ≤ 20 = omega arith in
    omega (arith, mul-le-mul_right a.n h)

pub overflow_add-place : goal.overflow_add-place
overflow_add-place c =
    let a = c.args in
    let h : a.w ≤ 20 = omega arith in
    omega (arith, mul-le-mul_right a.n h)

pub loop-k-init : goal.loop-k-init
loop-k-init c = (sym (sum-none _), omega arith)

pub loop-k-preserved : goal.loop-k-preserved
loop-k-preserved c =
    let a = c.args in
    let f : ℕ → ℕ = λ j. le16 a.b.now (a.place + a.w * j) in
    (omega (arith, c.get16-total.ensures.0, sum_more f c.loop-k.k), omega (arith, c.get16-total.ensures.1))
