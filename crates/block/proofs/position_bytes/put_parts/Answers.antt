-- The four parts are written one after another in the definition's order; they have 4, 81, 14 and 1 bytes, so there is room for each.
-- Assumes nothing.
-- four parts of 4, 81, 14 and 1 bytes have room in 100
use native.Mathlib.Omega.{arith}
use mathlib.Core.Path.{◌≡◌, refl}
use Prim.Native.Nat.{ℕ, ◌+◌, ◌≤◌}
use mathlib.Core.List.{List, [], ◌∷◌, ◌++◌}
use lib.ListN.{length, length-append}
use borrow.Author.Rules.{rules}
use Rattle.lent.specs.Bytes.{Wrote, fitting}
use Rattle.lent.proofs.Room.{left, filled, room-front, then_piece, three_of}
use Rattle.block.specs.PositionBytes.{position_bytes}
use Rattle.block.proofs.position_bytes.put_parts.Goals as goal

four : (t u v w : List ℕ) {o o₁ p q r : List ℕ} {n m k l : ℕ} → length t ≡ 4 → length u ≡ 81 → length v ≡ 14 → length w ≡ 1 → 100 ≤ length o
    → Wrote (fitting t o) o o₁ n → Wrote (fitting u (left n o₁)) (left n o₁) p m
    → Wrote (fitting v (left (n + m) (filled n o₁ p))) (left (n + m) (filled n o₁ p)) q k
    → Wrote (fitting w (left (n + m + k) (filled (n + m) (filled n o₁ p) q))) (left (n + m + k) (filled (n + m) (filled n o₁ p) q)) r l
    → Wrote (((t ++ u) ++ v) ++ w) o (filled (n + m + k) (filled (n + m) (filled n o₁ p) q) r) (n + m + k + l)
four t u v w {o} e₁ e₂ e₃ e₄ h a b c d =
    let h₄ : length (((t ++ u) ++ v) ++ w) ≤ length o = omega (arith, length-append ((t ++ u) ++ v) w, length-append (t ++ u) v, length-append t u) in
    then_piece w (three_of t u v (room-front ((t ++ u) ++ v) w h₄) a b c) h₄ d

pub returns : goal.returns
unfolding position_bytes
returns c =
    let p = c.args.p in
    four (p.preset ∷ p.board ∷ p.turn ∷ 0 ∷ []) p.cells p.hands (0 ∷ []) refl (search rules) (search rules) refl c.requires
    c.put_bytes-a.ensures c.put_bytes.ensures c.put_bytes-2.ensures c.put_bytes-3.ensures
