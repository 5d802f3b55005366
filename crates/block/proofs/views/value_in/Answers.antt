-- The value's offset and length stand 4 and 6 bytes into the entry's row.
-- Assumes nothing.
use Prim.Native.Nat.{ℕ, ◌+◌, ◌*◌}
use native.Mathlib.Omega.{arith}
use mathlib.Core.Path.{◌≡◌, ap, ◌∙◌}
use lib.ListN.{take, drop}
use Rattle.lent.specs.Bytes.{le16}
use Rattle.block.specs.Decode.{value_offset}
use Rattle.block.proofs.views.value_in.Goals as goal

pub returns : goal.returns
returns c =
    let a = c.args in
    let e : 128 + 8 * a.k + 4 + 2 ≡ 128 + 8 * a.k + 6 = omega arith in
    c.text_in.ensures ∙ ap (λ (n : ℕ). take (le16 a.b.now n) (drop (value_offset a.b.now a.k) a.texts.now)) e
