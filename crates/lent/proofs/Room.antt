-- Room in a lent buffer for a text in pieces: where the whole fits, each piece fits what the pieces before it leave.
-- Assumes nothing.
use Prim.Native.Nat.{ℕ, ◌+◌, ◌-◌, ◌≤◌}
use native.Mathlib.Omega.{arith}
use mathlib.Core.Path.{◌≡◌, refl, sym, ap, ◌∙◌}
use mathlib.Core.List.{List, [], ◌∷◌, ◌++◌, append_assoc}
use lib.ListN.{length, drop, length-append}
use lib.Seq.{drop_at, drop-drop}
use borrow.Rule.Slice.PartMut.{mid_of, put_mid}
use Rattle.lent.specs.Bytes.{Wrote, fitting}
use Rattle.lent.specs.Stored.{Stored}
use Rattle.lent.proofs.Writes.{as_text, wrote_all, wrote_length, wrote_front, rest_length, then}
use Rattle.lent.proofs.Regions.{put_eq, stored_all}

-- the front of a text that has room has room
pub room-front : (t u : List ℕ) {n : ℕ} → length (t ++ u) ≤ n → length t ≤ n
room-front t u h = omega (arith, length-append t u)

-- a number of bytes after what was written
pub room_left : {t o o₁ : List ℕ} {n : ℕ} (m : ℕ) → Wrote t o o₁ n → n + m ≤ length o → m ≤ length (mid_of n (length o₁ - n) o₁)
room_left {o₁ = o₁} {n = n} m w h = omega (arith, wrote_length w, rest_length o₁ n)

-- the piece after it
pub room_after : {t₁ o o₁ : List ℕ} {n : ℕ} (t₂ : List ℕ) → Wrote t₁ o o₁ n → length (t₁ ++ t₂) ≤ length o
    → length t₂ ≤ length (mid_of n (length o₁ - n) o₁)
room_after {t₁ = t₁} t₂ w h = room_left (length t₂) w (omega (arith, length-append t₁ t₂, w.count))

-- a leaf wrote the piece after it
pub then_piece : {t₁ o o₁ p : List ℕ} {n₁ n₂ : ℕ} (t₂ : List ℕ) → Wrote t₁ o o₁ n₁ → length (t₁ ++ t₂) ≤ length o
    → Wrote (fitting t₂ (mid_of n₁ (length o₁ - n₁) o₁)) (mid_of n₁ (length o₁ - n₁) o₁) p n₂
    → Wrote (t₁ ++ t₂) o (put_mid n₁ (length o₁ - n₁) o₁ p) (n₁ + n₂)
then_piece {t₁ = t₁} t₂ w h v = then w (wrote_all {t = t₂} (room_after t₂ w h) v)

-- the same text under another name
pub room_as : {t t' : List ℕ} {n : ℕ} → t ≡ t' → length t' ≤ n → length t ≤ n
room_as e h = rw e h

-- a leaf wrote bytes that are a text
pub bytes_of : {t t' o o₁ : List ℕ} {n : ℕ} → t ≡ t' → length t' ≤ length o → Wrote (fitting t o) o o₁ n → Wrote t' o o₁ n
bytes_of {o = o} e h w = wrote_all h (as_text (ap (λ (t : List ℕ). fitting t o) e) w)

-- ---- several pieces

-- what is left of a buffer from n on, and the buffer with that part filled again
abbrev pub left : ℕ → List ℕ → List ℕ
left n o = mid_of n (length o - n) o

abbrev pub filled : ℕ → List ℕ → List ℕ → List ℕ
filled n o p = put_mid n (length o - n) o p

-- the first piece of a text that has room
pub first-of : (t u : List ℕ) {o o₁ : List ℕ} {n : ℕ} → length (t ++ u) ≤ length o → Wrote (fitting t o) o o₁ n → Wrote t o o₁ n
first-of t u h w = wrote_all (room-front t u h) w

-- two pieces
pub two_of : (t u : List ℕ) {o o₁ p : List ℕ} {n m : ℕ} → length (t ++ u) ≤ length o → Wrote (fitting t o) o o₁ n → Wrote (fitting u (left n o₁)) (left n o₁) p m
    → Wrote (t ++ u) o (filled n o₁ p) (n + m)
two_of t u h a b = then_piece u (first-of t u h a) h b

-- three pieces
pub three_of : (t u v : List ℕ) {o o₁ p q : List ℕ} {n m k : ℕ} → length ((t ++ u) ++ v) ≤ length o
    → Wrote (fitting t o) o o₁ n → Wrote (fitting u (left n o₁)) (left n o₁) p m
    → Wrote (fitting v (left (n + m) (filled n o₁ p))) (left (n + m) (filled n o₁ p)) q k
    → Wrote ((t ++ u) ++ v) o (filled (n + m) (filled n o₁ p) q) (n + m + k)
three_of t u v h a b c = then_piece v (two_of t u (room-front (t ++ u) v h) a b) h c

-- ---- pieces that are stored at the end of what was written

-- a text stored at the end of what was written
pub then_stored : {u o o₁ o₂ : List ℕ} {n r : ℕ} (t : List ℕ) → Wrote u o o₁ n → length (u ++ t) ≤ length o
    → Stored (fitting t (drop n o₁)) o₁ o₂ n r → Wrote (u ++ t) o o₂ r
then_stored {u} {o} {o₁} {o₂} {n} {r} t w h s =
    let k : n + length t ≤ length o₁ = omega (arith, length-append u t, w.count, wrote_length w) in
    let v : Stored t o₁ o₂ n r = stored_all k s in
    let e : drop n o₁ ≡ drop n o = rw w.bytes (drop_at u (drop n o) n (sym w.count)) in
    record {
      count = omega (arith, v.end, length-append u t, w.count);
      bytes =
          v.bytes ∙ put_eq o₁ n t k ∙ ap (λ (l : List ℕ). l ++ (t ++ drop (n + length t) o₁)) (wrote_front w)
          ∙ ap (λ (l : List ℕ). u ++ (t ++ l)) (sym (drop-drop (length t) n o₁) ∙ ap (drop (length t)) e ∙ drop-drop (length t) n o)
          ∙ sym (append_assoc u t (drop (n + length t) o)) ∙ ap (λ (m : ℕ). (u ++ t) ++ drop m o) (sym v.end);
      fits = omega (arith, v.end, wrote_length w);
    }

-- two pieces, the second stored
pub two_stored : (t u : List ℕ) {o o₁ o₂ : List ℕ} {n r : ℕ} → length (t ++ u) ≤ length o → Wrote (fitting t o) o o₁ n
    → Stored (fitting u (drop n o₁)) o₁ o₂ n r → Wrote (t ++ u) o o₂ r
two_stored t u h a b = then_stored u (first-of t u h a) h b

-- three pieces, the third stored
pub three_stored : (t u v : List ℕ) {o o₁ p q : List ℕ} {n m r : ℕ} → length ((t ++ u) ++ v) ≤ length o
    → Wrote (fitting t o) o o₁ n → Wrote (fitting u (left n o₁)) (left n o₁) p m
    → Stored (fitting v (drop (n + m) (filled n o₁ p))) (filled n o₁ p) q (n + m) r → Wrote ((t ++ u) ++ v) o q r
three_stored t u v h a b c = then_stored v (two_of t u (room-front (t ++ u) v h) a b) h c

-- ---- nothing was written

-- the buffer is as it was
pub unchanged : {t o o₁ : List ℕ} {n : ℕ} → Wrote t o o₁ n → n ≡ 0 → o₁ ≡ o
unchanged {t} {o} {o₁} {n} w e = w.bytes ∙ ap (λ (m : ℕ). t ++ drop m o) e ∙ go t (sym w.count ∙ e)
  where
    go : (t : List ℕ) → length t ≡ 0 → t ++ o ≡ o
    go [] z = refl
    go (x ∷ t) z = absurd (omega arith)

-- a text in its place
pub instead : {t o o₁ o₂ : List ℕ} {n m : ℕ} (u : List ℕ) → Wrote t o o₁ n → n ≡ 0 → length u ≤ length o → Wrote (fitting u o₁) o₁ o₂ m → Wrote u o o₂ m
instead {o = o} {o₂ = o₂} {m = m} u w e h v = wrote_all h (rw (unchanged w e) at v)
