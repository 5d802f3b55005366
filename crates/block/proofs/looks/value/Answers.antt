-- `look` over the header table, four bytes into each row.
-- Assumes nothing.
use Prim.Native.Nat.{◌+◌, ◌*◌}
use native.Mathlib.Omega.{arith}
use mathlib.Core.Path.{◌≡◌}
use Rattle.block.proofs.LookUps.{looked}
use Rattle.block.specs.Decode.{value_of}
use Rattle.block.proofs.looks.value.Goals as goal

pub returns : goal.returns
unfolding value_of
returns c =
    let w = (let k = c.args.k in
    let p : 132 + 8 * k ≡ 128 + 8 * k + 4 = omega arith in
    let q : 132 + 8 * k + 2 ≡ 128 + 8 * k + 6 = omega arith in
    looked c.args.b.now k c.headers.ensures.0 p q (c.look.ensures.result_value, c.look.ensures.answered)) in
    record { result_value = w.0; answered = w.1 }
