-- A position's 100 bytes say the position, whatever follows them.
--     position-back     what is read is the position that was written
--     position-length   there are 100 bytes
--     bytes-part        bytes at a place are a part of the list
-- Assumes nothing.
use Prim.Native.Nat.{ℕ, zero, suc, ◌+◌, ◌≤◌}
use native.Mathlib.Omega.{arith}
use mathlib.Core.Path.{◌≡◌, refl, ap, ap₂, ◌∙◌}
use mathlib.Core.List.{List, [], ◌∷◌, ◌++◌, append_assoc}
use lib.ListN.{length, get_or, take, drop, length-append}
use lib.Seq.{take_at, drop_at}
use Rattle.lists.proofs.Laws.{drop_step}
use Rattle.block.proofs.Joining.{joined}
use Rattle.jkf.specs.declared.Position.{Position}
use Rattle.block.specs.PositionBytes.{position_bytes, bytes_at, position_in}

-- within a list the bytes at a place are a part of it
pub bytes_part : (l : List ℕ) (at n : ℕ) → at + n ≤ length l → bytes_at l at n ≡ take n (drop at l)
unfolding bytes_at
bytes_part l at zero h = refl
bytes_part l at (suc n) h =
    rw (drop_step l at (omega arith)) (ap (λ (r : List ℕ). get_or l at 0 ∷ r) (bytes_part l (at + 1) n (omega arith)))

-- what stands between two texts
pub bytes_between : (a b c : List ℕ) (at n : ℕ) → length a ≡ at → length b ≡ n → bytes_at (a ++ (b ++ c)) at n ≡ b
bytes_between a b c at n e₁ e₂ =
    bytes_part (a ++ (b ++ c)) at n (simp length-append (omega arith)) ∙ ap (λ (l : List ℕ). take n l) (drop_at a (b ++ c) at e₁) ∙ take_at b c n e₂

pub position_back : (p : Position) (r : List ℕ) → length p.cells ≡ 81 → length p.hands ≡ 14 → position_in (position_bytes p ++ r) ≡ p
unfolding position_bytes position_in
position_back p r e₁ e₂ =
    ap₂ (λ (c h : List ℕ). made c h)
    (ap (λ (l : List ℕ). bytes_at l 4 81) (parts ∙ append_assoc head p.cells (p.hands ++ ((0 ∷ []) ++ r))) ∙ bytes_between head p.cells (p.hands ++ ((0 ∷ []) ++ r)) 4 81 refl e₁)
    (ap (λ (l : List ℕ). bytes_at l 85 14) parts
    ∙ bytes_between (head ++ p.cells) p.hands ((0 ∷ []) ++ r) 85 14 (omega arith) e₂)
  where
    head : List ℕ
    head = p.preset ∷ p.board ∷ p.turn ∷ 0 ∷ []

    made : List ℕ → List ℕ → Position
    made c h = record { preset = p.preset; board = p.board; turn = p.turn; cells = c; hands = h }

    parts : head ++ p.cells ++ p.hands ++ (0 ∷ []) ++ r ≡ (head ++ p.cells) ++ (p.hands ++ ((0 ∷ []) ++ r))
    parts = joined (head ++ p.cells) p.hands (0 ∷ []) r

pub position-length : (p : Position) → length p.cells ≡ 81 → length p.hands ≡ 14 → length (position_bytes p) ≡ 100
unfolding position_bytes
position-length p e₁ e₂ = simp length-append (omega arith)
