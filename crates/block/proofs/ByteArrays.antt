-- Laws of `bytes_at`: one law for the cells and the hands.
-- Assumes nothing.
use Prim.Native.Nat.{ℕ, zero, suc, ◌+◌, ◌≤◌, ◌<◌}
use native.Mathlib.Omega.{arith}
use mathlib.Core.Path.{◌≡◌, refl, ap, ap₂, ◌∙◌}
use mathlib.Core.List.{List, [], ◌∷◌, ◌++◌}
use lib.ListN.{length, get_or}
use native.Mathlib.Decide.{dec_lt}
use denote.Param.Members.{Mut, Called}
use Rattle.std.specs.Array.{IsFromFnResultFrom}
use Rattle.block.specs.PositionBytes.{bytes_at}

-- one byte more
bytes_snoc : (s : List ℕ) (at n : ℕ) → bytes_at s at (suc n) ≡ bytes_at s at n ++ (get_or s (at + n) 0 ∷ [])
unfolding bytes_at
bytes_snoc s at zero =
    let e : at + 0 ≡ at = omega arith in
    rw e
bytes_snoc s at (suc n) =
    let e : at + suc n ≡ at + 1 + n = omega arith in
    rw e (ap (λ (l : List ℕ). get_or s at 0 ∷ l) (bytes_snoc s (at + 1) n))

pub bytes-length : (s : List ℕ) (at n : ℕ) → length (bytes_at s at n) ≡ n
unfolding bytes_at
bytes-length s at zero = refl
bytes-length s at (suc n) = ap suc (bytes-length s (at + 1) n)

-- a list of n bytes that are those from a place on
pub bytes_as : (s a : List ℕ) (at n : ℕ) → length a ≡ n → ((i : ℕ) → i < n → get_or a i 0 ≡ get_or s (at + i) 0) → a ≡ bytes_at s at n
unfolding bytes_at
bytes_as s [] at zero e h = refl
bytes_as s [] at (suc n) e h = absurd (omega arith)
bytes_as s (x ∷ a) at zero e h = absurd (omega arith)
bytes_as s (x ∷ a) at (suc n) e h =
    let z : at + 0 ≡ at = omega arith in
    let f : x ≡ get_or s at 0 = h 0 (omega arith) ∙ ap (λ (j : ℕ). get_or s j 0) z in
    ap₂ (λ (y : ℕ) (l : List ℕ). y ∷ l) f (bytes_as s a (at + 1) n (omega arith) (λ i l. h (suc i) (omega arith) ∙ ap (λ (j : ℕ). get_or s j 0) (omega arith)))

-- what the calls of a closure gave, each at the next number
module _ {F : Type 0} {g : Mut F (ℕ × Unit {0}) ℕ} (P : F → Type 0) (h : ℕ → ℕ) (one : (p q : F) (i y : ℕ) → P p → Called g p (i, tt) y q → (y ≡ h i) × P q) where
  given_from : (ys : List ℕ) (f : F) (i n : ℕ) → P f → IsFromFnResultFrom g f ys i n → (j : ℕ) → i ≤ j → j < i + n → get_or ys j 0 ≡ h j
  given_from ys f i zero w c j l m = absurd (omega arith)
  given_from ys f i (suc n) w (q, y, e, k, r) j l m =
      let (a, b) = one f q i y w k in go (dec_lt i j) a (λ t. given_from ys q (i + 1) n b r j (omega arith) (omega arith))
    where
      go : Dec (i < j) → y ≡ h i → (i < j → get_or ys j 0 ≡ h j) → get_or ys j 0 ≡ h j
      go (yes t) a ih = ih t
      go (no t) a ih = let z : i ≡ j = omega arith in rw (← z) (e.1 0 ∙ a)

  pub given : (ys : List ℕ) {f : F} (n : ℕ) → P f → IsFromFnResultFrom g f ys 0 n → (j : ℕ) → j < n → get_or ys j 0 ≡ h j
  given ys {f} n w c j m = given_from ys f 0 n w c j (omega arith) (omega arith)
