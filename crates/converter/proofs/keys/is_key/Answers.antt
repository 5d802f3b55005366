-- The row that begins a byte before b is that of key n.
-- Assumes nothing.
-- the row ends in the table
use Prim.Native.Nat.{ℕ, ◌+◌, ◌*◌, ◌-◌, ◌≤◌}
use native.Mathlib.Omega.{arith}
use mathlib.Core.List.{[]}
use mathlib.Core.Path.{refl, ap, ◌∙◌}
use lib.ListN.{get_or}
use Rattle.text.specs.Text.{same}
use Rattle.converter.specs.Headers.{leading_keys}
use Rattle.converter.proofs.Keyed.{key_rows, row-size, row_word}
use Rattle.converter.proofs.keys.is_key.Goals as goal
use Rattle.converter.proofs.keys.is_key.Goals.{After-wide-2}

size : (c : After-wide-2) → 13 * c.wide.result - 12 + c.wide-2.result ≤ 156
size c =
    let n = c.wide.result in
    row-size (key_rows leading_keys) (13 * n - 12) n refl (omega arith) (omega arith) (omega arith) c.wide-2.result c.wide-2.ensures.0

pub slice_bounds-is_same-end : goal.slice_bounds-is_same-end
slice_bounds-is_same-end c = omega (arith, size (goal.at.slice_bounds-is_same-end c).After-wide-2)

pub returns : goal.returns
returns c =
    let n = c.wide.result in
    let t = c.args.t.now in
    let word = row_word (key_rows leading_keys) (13 * n - 12) n refl (omega arith) (omega arith) (omega arith) c.wide-2.result c.wide-2.ensures.0 in
    c.is_same.ensures ∙ ap (same t) word ∙ ap (λ (k : ℕ). same t (get_or leading_keys (k - 1) [])) c.wide.ensures.0
