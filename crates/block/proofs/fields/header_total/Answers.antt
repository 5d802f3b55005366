-- The two sums together are the sum of both fields, row by row (`sum-add`).
-- Assumes nothing.
use Prim.Native.Nat.{◌+◌}
use native.Mathlib.Omega.{arith}
use Rattle.block.proofs.Sums.{field-sum, sum-add}
use Rattle.block.specs.Decode.{header_place, headers_in, key_length, value_length}
use Rattle.block.proofs.fields.header_total.Goals as goal

pub returns : goal.returns
returns c =
    let b = c.args.b.now in
    let s = c.sum_of.ensures in
    let t = c.sum_of-2.ensures in
    let n = c.headers-n.ensures in
    let p = field-sum b (λ k. header_place b k + 2) 130 8 _ _ (λ k. omega arith) n.0 in
    let q = field-sum b (λ k. header_place b k + 6) 134 8 _ _ (λ k. omega arith) n.0 in
    (omega (arith, s.0, t.0, p, q, sum-add (key_length b) (value_length b) (headers_in b)), omega (arith, s.1, t.1, n.1))
