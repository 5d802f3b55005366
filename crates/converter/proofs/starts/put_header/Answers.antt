-- Four texts one after the other, each of which fits, since the whole line does.
-- Assumes nothing.
use Prim.Native.Nat.{◌≤◌}
use mathlib.Core.List.{[], ◌∷◌, ◌++◌}
use lib.ListN.{length}
use Rattle.text.specs.Text.{wide_colon}
use Rattle.converter.specs.Headers.{header_line}
use Rattle.lent.proofs.Room.{room-front, then_stored, two_stored}
use Rattle.converter.proofs.starts.put_header.Goals as goal

pub returns : goal.returns
unfolding header_line
returns c =
    let a = c.args in
    let k = a.key.now in
    let v = a.value.now in
    let r₄ : length (((k ++ wide_colon) ++ v) ++ (10 ∷ [])) ≤ length a.out.now = c.requires in
    let r₃ = room-front ((k ++ wide_colon) ++ v) (10 ∷ []) r₄ in
    let w₂ = two_stored k wide_colon (room-front (k ++ wide_colon) v r₃) c.put_bytes-n.ensures c.put_at-m.ensures in
    then_stored (10 ∷ []) (then_stored v w₂ r₃ c.put_at-e.ensures) r₄ c.put_at.ensures
