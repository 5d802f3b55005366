-- The position read off a place, written again, is the 100 bytes that stand there: preset, flag and turn are read one by one, cells and
-- counts are bytes in a row, and the two bytes between them that say nothing are zero.
-- Assumes nothing.
use Prim.Native.Nat.{ℕ, ◌+◌, ◌≤◌}
use native.Mathlib.Omega.{arith}
use mathlib.Core.Path.{◌≡◌, refl, sym, ap, ◌∙◌}
use mathlib.Core.List.{List, [], ◌∷◌}
use lib.ListN.{length, get_or, take}
use Rattle.lists.proofs.Laws.{drop_step}
use Rattle.block.specs.PositionBytes.{position_bytes, bytes_at, position_in}
use Rattle.block.proofs.PositionsBack.{bytes_part}
use Rattle.laws.proofs.Parts.{Part, then}

byte_part : (l : List ℕ) (x at : ℕ) → x ≡ get_or l at 0 → at + 1 ≤ length l → Part l at 1 (x ∷ [])
byte_part l x at e h = record { is = ap (λ (y : ℕ). y ∷ []) e ∙ sym (ap (take 1) (drop_step l at (omega arith))) }

pub position-bytes : (l : List ℕ) → 100 ≤ length l → get_or l 3 0 ≡ 0 → get_or l 99 0 ≡ 0 → position_bytes (position_in l) ≡ take 100 l
unfolding position_bytes position_in
position-bytes l h a b =
    let front : Part l 0 4 (get_or l 0 0 ∷ get_or l 1 0 ∷ get_or l 2 0 ∷ 0 ∷ []) =
    then (byte_part l _ 0 refl (omega arith))
    (then (byte_part l _ 1 refl (omega arith)) (then (byte_part l _ 2 refl (omega arith)) (byte_part l 0 3 (sym a) (omega arith)))) in
    let cells : Part l 4 81 (bytes_at l 4 81) = record { is = bytes_part l 4 81 (omega arith) } in
    let hands : Part l 85 14 (bytes_at l 85 14) = record { is = bytes_part l 85 14 (omega arith) } in
    let all : Part l 0 100 (position_bytes (position_in l)) = then (then (then front cells) hands) (byte_part l 0 99 (sym b) (omega arith)) in
    all.is
