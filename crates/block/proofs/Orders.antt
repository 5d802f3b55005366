-- Two texts compared byte by byte, or by four at once: what is left of them decides.
-- Assumes nothing.
use Prim.Native.Nat.{ℕ, ◌+◌, ◌*◌, ◌≤◌, ◌<◌}
use native.Mathlib.Decide.{dec_lt}
use native.Mathlib.Omega.{arith}
use mathlib.Core.Path.{◌≡◌, refl, sym, ap, ◌∙◌}
use mathlib.Core.List.{List, [], ◌∷◌}
use mathlib.Core.Bool.{true, false}
use lib.ListN.{length, get_or, drop, drop_of_length-le}
use lib.Dec.{ltb}
use borrow.Author.Tests.{lt-ltb, le-ltb, eq-eqb, ne_eqb}
use Rattle.lists.proofs.Laws.{drop_step}
use Rattle.text.specs.Text.{before, same}

before_nil : (a : List ℕ) → before a [] ≡ false
unfolding before
before_nil [] = refl
before_nil (x ∷ a) = refl

module _ (a b : List ℕ) (i : ℕ) where
  -- nothing is left of the second
  pub before-end : length b ≤ i → before (drop i a) (drop i b) ≡ false
  before-end h = rw (drop_of_length-le b h) (before_nil (drop i a))

  -- nothing is left of the first
  pub before-short : i < length b → length a ≤ i → before (drop i a) (drop i b) ≡ true
  unfolding before
  before-short h k = rw (drop_step b i h, drop_of_length-le a k)

  pub before_less : i < length a → i < length b → get_or a i 0 < get_or b i 0 → before (drop i a) (drop i b) ≡ true
  unfolding before
  before_less h k l = rw (drop_step a i h, drop_step b i k, lt-ltb _ _ l)

  pub before_more : i < length a → i < length b → get_or b i 0 < get_or a i 0 → before (drop i a) (drop i b) ≡ false
  unfolding before
  before_more h k l =
      let ne : get_or a i 0 ≡ get_or b i 0 → ⊥ = λ e. omega arith in
      rw (drop_step a i h, drop_step b i k, le-ltb (get_or a i 0) (get_or b i 0) (omega arith), ne_eqb _ _ ne)

  pub before_on : i < length a → i < length b → get_or a i 0 ≡ get_or b i 0 → before (drop i a) (drop i b) ≡ before (drop (i + 1) a) (drop (i + 1) b)
  unfolding before
  before_on h k e = rw (drop_step a i h, drop_step b i k, le-ltb (get_or a i 0) (get_or b i 0) (omega arith), eq-eqb _ _ e)

  -- the same bytes are passed, to a place under any name
  before-past : (j : ℕ) → i + 1 ≡ j → i < length a → i < length b → get_or a i 0 ≡ get_or b i 0 → before (drop i a) (drop i b) ≡ before (drop j a) (drop j b)
  before-past j z h k e = before_on h k e ∙ ap (λ (n : ℕ). before (drop n a) (drop n b)) z

  pub same_end : length a ≡ length b → length a ≤ i → same (drop i a) (drop i b) ≡ true
  unfolding same
  same_end e h = let k : length b ≤ i = omega arith in rw (drop_of_length-le a h, drop_of_length-le b k)

  pub same_off : i < length a → i < length b → (get_or a i 0 ≡ get_or b i 0 → ⊥) → same (drop i a) (drop i b) ≡ false
  unfolding same
  same_off h k e = rw (drop_step a i h, drop_step b i k, ne_eqb _ _ e)

  pub same-on : i < length a → i < length b → get_or a i 0 ≡ get_or b i 0 → same (drop i a) (drop i b) ≡ same (drop (i + 1) a) (drop (i + 1) b)
  unfolding same
  same-on h k e = rw (drop_step a i h, drop_step b i k, eq-eqb _ _ e)

-- of two numbers one is smaller, or they are the same
ordered : {P : Type 0} (x y : ℕ) → (x < y → P) → (x ≡ y → P) → (y < x → P) → P
ordered {P} x y l e m = go (dec_lt x y) (dec_lt y x)
  where
    go : Dec (x < y) → Dec (y < x) → P
    go (yes h) _ = l h
    go (no h) (yes k) = m k
    go (no h) (no k) = e (omega arith)

-- ---- four bytes as one number

-- four at a place of each text, x and y
module _ (a b : List ℕ) (i x y : ℕ) (h : i + 4 ≤ length a) (k : i + 4 ≤ length b) (u : (j : ℕ) → get_or a j 0 < 256) (v : (j : ℕ) → get_or b j 0 < 256)
    (p : x ≡ 16777216 * get_or a i 0 + 65536 * get_or a (i + 1) 0 + 256 * get_or a (i + 2) 0 + get_or a (i + 3) 0)
    (q : y ≡ 16777216 * get_or b i 0 + 65536 * get_or b (i + 1) 0 + 256 * get_or b (i + 2) 0 + get_or b (i + 3) 0) where
  -- the numbers are the same, and so are the bytes
  pub four_same : x ≡ y → before (drop i a) (drop i b) ≡ before (drop (i + 4) a) (drop (i + 4) b)
  four_same e =
      let a₁ = u (i + 1) in
      let a₂ = u (i + 2) in
      let a₃ = u (i + 3) in
      let b₁ = v (i + 1) in
      let b₂ = v (i + 2) in
      let b₃ = v (i + 3) in
      before-past a b i (i + 1) refl (omega arith) (omega arith) (omega arith)
      ∙ before-past a b (i + 1) (i + 2) (omega arith) (omega arith) (omega arith) (omega arith)
      ∙ before-past a b (i + 2) (i + 3) (omega arith) (omega arith) (omega arith) (omega arith)
      ∙ before-past a b (i + 3) (i + 4) (omega arith) (omega arith) (omega arith) (omega arith)

  -- byte j decides
  less : (j : ℕ) → j < length a → j < length b → get_or a j 0 < get_or b j 0 → x < y → before (drop j a) (drop j b) ≡ ltb x y
  less j m n l o = before_less a b j m n l ∙ sym (lt-ltb x y o)

  more : (j : ℕ) → j < length a → j < length b → get_or b j 0 < get_or a j 0 → y ≤ x → before (drop j a) (drop j b) ≡ ltb x y
  more j m n l o = before_more a b j m n l ∙ sym (le-ltb x y o)

  -- the first byte that differs decides, for the numbers as for the bytes
  pub four_order : (x ≡ y → ⊥) → before (drop i a) (drop i b) ≡ ltb x y
  four_order ne =
      let a₁ = u (i + 1) in
      let a₂ = u (i + 2) in
      let a₃ = u (i + 3) in
      let b₁ = v (i + 1) in
      let b₂ = v (i + 2) in
      let b₃ = v (i + 3) in
      ordered (get_or a i 0) (get_or b i 0)
      (λ l. less i (omega arith) (omega arith) l (omega arith))
      (λ e₀. before-past a b i (i + 1) refl (omega arith) (omega arith) e₀ ∙ ordered (get_or a (i + 1) 0) (get_or b (i + 1) 0)
      (λ l. less (i + 1) (omega arith) (omega arith) l (omega arith))
      (λ e₁. before-past a b (i + 1) (i + 2) (omega arith) (omega arith) (omega arith) e₁ ∙ ordered (get_or a (i + 2) 0) (get_or b (i + 2) 0)
      (λ l. less (i + 2) (omega arith) (omega arith) l (omega arith))
      (λ e₂. before-past a b (i + 2) (i + 3) (omega arith) (omega arith) (omega arith) e₂ ∙ ordered (get_or a (i + 3) 0) (get_or b (i + 3) 0)
      (λ l. less (i + 3) (omega arith) (omega arith) l (omega arith))
      (λ e₃. absurd (ne (omega arith)))
      (λ l. more (i + 3) (omega arith) (omega arith) l (omega arith)))
      (λ l. more (i + 2) (omega arith) (omega arith) l (omega arith)))
      (λ l. more (i + 1) (omega arith) (omega arith) l (omega arith)))
      (λ l. more i (omega arith) (omega arith) l (omega arith))
