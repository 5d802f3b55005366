-- What the byte at a place says of the key there, and how two keys compare.
-- Assumes nothing.
use Prim.Native.Nat.{ℕ, ◌+◌, ◌*◌, ◌≤◌, ◌<◌}
use native.Mathlib.Nat.{not-suc-le-zero}
use native.Mathlib.Omega.{arith}
use native.Mathlib.Decide.{dec_lt}
use mathlib.Core.Path.{◌≡◌, refl, sym, ap, ◌∙◌}
use mathlib.Core.Logic.{◌⊎◌, inl, inr}
use mathlib.Core.List.{List, [], ◌∷◌, ◌++◌}
use mathlib.Core.Bool.{Bool, true, false, not, true≢false}
use lib.ListN.{length, get_or, drop, drop_of_length-le}
use lib.Dec.{eqb}
use borrow.Author.Tests.{ne_eqb, not-true}
use Rattle.lists.specs.Pick.{pick}
use Rattle.lists.proofs.Laws.{drop_step, pick_both}
use Rattle.text.specs.Text.{is_text, prefix_from, stands_at, wide_colon, ends_key, key_from, key_at}
use Rattle.std.specs.declared.cmp.Ordering.TheVariants.{Less, Equal, Greater}
use Rattle.sorted.specs.inner.Heads.{is_plain, head_of, lead_digits, four_at, Four}
use Rattle.lists.specs.All.{All, none, next}
use Rattle.sorted.specs.Sorted.{by_bytes}
use Rattle.sorted.proofs.Orders.{flip, bytes_flip, is_less, is_equal, is_greater}

-- ---- whether a key ends at a place

key-none : (l : List ℕ) → ends_key l ≡ true → key_from l ≡ []
unfolding key_from
key-none [] e = refl
key-none (b ∷ l) e = rw e

key-some : (b : ℕ) (l : List ℕ) → ends_key (b ∷ l) ≡ false → key_from (b ∷ l) ≡ b ∷ key_from l
unfolding key_from
key-some b l e = rw e

pub key-end : (s : List ℕ) (at : ℕ) → ends_key (drop at s) ≡ true → head_of (key_at s at) ≡ 0
unfolding key_at
key-end s at e = ap head_of (key-none (drop at s) e)

-- a key that has a byte here
pub record More (s : List ℕ) (at : ℕ) : Type 0 where
  pub in_text : at < length s
  pub parts : key_at s at ≡ get_or s at 0 ∷ key_at s (at + 1)

pub key-on : (s : List ℕ) (at : ℕ) → ends_key (drop at s) ≡ false → More s at
unfolding key_at
key-on s at e = go (dec_lt at (length s))
  where
    go : Dec (at < length s) → More s at
    go (yes k) =
        let d = drop_step s at k in
        record { in_text = k; parts = ap key_from d ∙ key-some (get_or s at 0) (drop (at + 1) s) (ap ends_key (sym d) ∙ e) }
    go (no k) = absurd (true≢false (sym (ap ends_key (drop_of_length-le s {i = at} (omega arith))) ∙ e))

pub key_more : (s : List ℕ) (at : ℕ) → 0 < head_of (key_at s at) → More s at
key_more s at h = go (ends_key (drop at s)) refl
  where
    go : (t : Bool) → ends_key (drop at s) ≡ t → More s at
    go true e = absurd (omega (arith, key-end s at e))
    go false e = key-on s at e

pub no_head : (k : List ℕ) → head_of k ≡ 0 → k ≡ []
no_head [] e = refl
no_head (b ∷ k) e = absurd (omega arith)

pub key-past : (s : List ℕ) (at : ℕ) → length s ≤ at → ends_key (drop at s) ≡ true
key-past s at h = ap ends_key (drop_of_length-le s h)

module _ (s : List ℕ) (at : ℕ) (h : at < length s) where
  -- a plain byte is of the key,
  pub plain-on : is_plain (get_or s at 0) ≡ true → ends_key (drop at s) ≡ false
  unfolding prefix_from
  plain-on e =
      let (t, u) = pick_both (is_text (get_or s at 0)) (not (eqb (get_or s at 0) 239)) e in
      rw (drop_step s at h, t, not-true (eqb (get_or s at 0) 239) u)

  -- a CR or an LF ends it,
  pub break_off : is_plain (get_or s at 0) ≡ false → (get_or s at 0 ≡ 239 → ⊥) → ends_key (drop at s) ≡ true
  break_off e n = rw (drop_step s at h) (go (is_text (get_or s at 0)) (rw (ne_eqb _ _ n) at e))
    where
      go : (t : Bool) → pick t true false ≡ false → pick t (prefix_from wide_colon (get_or s at 0 ∷ drop (at + 1) s)) true ≡ true
      go true w = absurd (true≢false w)
      go false w = refl

  -- and where the first byte of ： stands, ： itself
  pub colon_is : get_or s at 0 ≡ 239 → ends_key (drop at s) ≡ stands_at wide_colon s at
  unfolding stands_at
  colon_is e = rw (drop_step s at h, e)

-- ---- comparing

pub head_less : (k l : List ℕ) → head_of k < head_of l → by_bytes k l ≡ Less
unfolding by_bytes
head_less [] [] h = absurd (not-suc-le-zero h)
head_less [] (y ∷ l) h = refl
head_less (x ∷ k) [] h = absurd (not-suc-le-zero h)
head_less (x ∷ k) (y ∷ l) h = rw (is_less x y (omega arith))

pub head_greater : (k l : List ℕ) → head_of l < head_of k → by_bytes k l ≡ Greater
unfolding by_bytes
head_greater [] [] h = absurd (not-suc-le-zero h)
head_greater [] (y ∷ l) h = absurd (not-suc-le-zero h)
head_greater (x ∷ k) [] h = refl
head_greater (x ∷ k) (y ∷ l) h = rw (is_greater x y (omega arith))

pub head-none : (k l : List ℕ) → head_of k ≡ 0 → head_of l ≡ 0 → by_bytes k l ≡ Equal
unfolding by_bytes
head-none [] [] g h = refl
head-none [] (y ∷ l) g h = absurd (omega arith)
head-none (x ∷ k) l g h = absurd (omega arith)

-- two keys that begin with the same byte compare as what follows
byte_same : (s : List ℕ) (i j : ℕ) → More s i → More s j → get_or s i 0 ≡ get_or s j 0
    → by_bytes (key_at s i) (key_at s j) ≡ by_bytes (key_at s (i + 1)) (key_at s (j + 1))
unfolding by_bytes
byte_same s i j m n e = rw (m.parts, n.parts, is_equal _ _ e)

pub head_more : (s : List ℕ) (i j : ℕ) → head_of (key_at s i) ≡ head_of (key_at s j) → 0 < head_of (key_at s i)
    → by_bytes (key_at s i) (key_at s j) ≡ by_bytes (key_at s (i + 1)) (key_at s (j + 1))
head_more s i j e h =
    let m = key_more s i h in
    let n = key_more s j (omega arith) in
    byte_same s i j m n (omega (arith, sym (ap head_of m.parts) ∙ e ∙ ap head_of n.parts))

-- a plain byte is of the key
key-next : (s : List ℕ) (n m : ℕ) → n + 1 ≡ m → n < length s → is_plain (get_or s n 0) ≡ true → key_at s n ≡ get_or s n 0 ∷ key_at s m
key-next s n m e h p = (key-on s n (plain-on s n h p)).parts ∙ ap (λ (k : ℕ). get_or s n 0 ∷ key_at s k) e

-- so are four, and their number is made of them digit by digit
pub is_four : (s : List ℕ) (at w x y z : ℕ) → at + 4 ≤ length s → is_plain (get_or s at 0) ≡ true → is_plain (get_or s (at + 1) 0) ≡ true
    → is_plain (get_or s (at + 2) 0) ≡ true → is_plain (get_or s (at + 3) 0) ≡ true → (w ≡ get_or s at 0) × (w < 256) → (x ≡ get_or s (at + 1) 0) × (x < 256)
    → (y ≡ get_or s (at + 2) 0) × (y < 256) → (z ≡ get_or s (at + 3) 0) × (z < 256) → Four s at (((w * 256 + x) * 256 + y) * 256 + z)
is_four s at w x y z h p q r t e f g k =
    let a = key-next s at (at + 1) refl (omega arith) p in
    let b = key-next s (at + 1) (at + 2) (omega arith) (omega arith) q in
    let c = key-next s (at + 2) (at + 3) (omega arith) (omega arith) r in
    let d = key-next s (at + 3) (at + 4) (omega arith) (omega arith) t in
    let w₁ : get_or s at 0 < 256 = omega arith in
    let x₁ : get_or s (at + 1) 0 < 256 = omega arith in
    let y₁ : get_or s (at + 2) 0 < 256 = omega arith in
    let z₁ : get_or s (at + 3) 0 < 256 = omega arith in
    record { parts = rw (a, b, c, d); value = omega arith; bytes = next w₁ (next x₁ (next y₁ (next z₁ none))) }

-- ---- bytes as the digits of a number

-- of two lists that are as long, the one whose number is less comes first, whatever follows them,
digits_less : (l m k n : List ℕ) (v w : ℕ) → length l ≡ length m → All (λ b. b < 256) l → All (λ b. b < 256) m → lead_digits v l < lead_digits w m
    → (v < w) ⊎ ((v ≡ w) × (by_bytes (l ++ k) (m ++ n) ≡ Less))
unfolding by_bytes
digits_less [] [] k n v w e f g h = inl h
digits_less [] (b ∷ m) k n v w e f g h = absurd (omega arith)
digits_less (a ∷ l) [] k n v w e f g h = absurd (omega arith)
digits_less (a ∷ l) (b ∷ m) k n v w e (next f₀ f) (next g₀ g) h = go (digits_less l m k n (v * 256 + a) (w * 256 + b) (omega arith) f g h) (dec_lt v w)
  where
    Goal : Type 0
    Goal = (v < w) ⊎ ((v ≡ w) × (by_bytes (a ∷ l ++ k) (b ∷ m ++ n) ≡ Less))

    go : (v * 256 + a < w * 256 + b) ⊎ ((v * 256 + a ≡ w * 256 + b) × (by_bytes (l ++ k) (m ++ n) ≡ Less)) → Dec (v < w) → Goal
    go t (yes u) = inl u
    go (inl t) (no u) = inr (omega (arith, f₀, g₀), rw (is_less a b (omega (arith, f₀, g₀))))
    go (inr t) (no u) = inr (omega (arith, f₀, g₀, t.0), rw (is_equal a b (omega (arith, f₀, g₀, t.0))) t.1)

-- and where the numbers are equal, what follows them decides
digits_same : (l m k n : List ℕ) (v w : ℕ) → length l ≡ length m → All (λ b. b < 256) l → All (λ b. b < 256) m → lead_digits v l ≡ lead_digits w m
    → (v ≡ w) × (by_bytes (l ++ k) (m ++ n) ≡ by_bytes k n)
unfolding by_bytes
digits_same [] [] k n v w e f g h = (h, refl)
digits_same [] (b ∷ m) k n v w e f g h = absurd (omega arith)
digits_same (a ∷ l) [] k n v w e f g h = absurd (omega arith)
digits_same (a ∷ l) (b ∷ m) k n v w e (next f₀ f) (next g₀ g) h =
    let t = digits_same l m k n (v * 256 + a) (w * 256 + b) (omega arith) f g h in
    (omega (arith, f₀, g₀, t.0), rw (is_equal a b (omega (arith, f₀, g₀, t.0))) t.1)

-- two keys that begin with four bytes compare as the numbers of these,
module _ {s : List ℕ} {i j x y : ℕ} (f : Four s i x) (g : Four s j y) where
  pub four_less : x < y → by_bytes (key_at s i) (key_at s j) ≡ Less
  four_less h = rw (f.parts, g.parts) (go (digits_less (four_at s i) (four_at s j) (key_at s (i + 4)) (key_at s (j + 4)) 0 0 refl f.bytes g.bytes (omega (arith, f.value, g.value))))
    where
      go : {P : Type 0} → (0 < 0) ⊎ ((◌≡◌ {A = ℕ} 0 0) × P) → P
      go (inl t) = absurd (not-suc-le-zero t)
      go (inr t) = t.1

  -- and as what follows where the numbers are equal
  pub four_same : x ≡ y → by_bytes (key_at s i) (key_at s j) ≡ by_bytes (key_at s (i + 4)) (key_at s (j + 4))
  four_same h = rw (f.parts, g.parts) (digits_same (four_at s i) (four_at s j) (key_at s (i + 4)) (key_at s (j + 4)) 0 0 refl f.bytes g.bytes (omega (arith, f.value, g.value))).1

-- the other way round
pub four_greater : {s : List ℕ} {i j x y : ℕ} → Four s i x → Four s j y → y < x → by_bytes (key_at s i) (key_at s j) ≡ Greater
four_greater {s} {i} {j} f g h = bytes_flip (key_at s j) (key_at s i) ∙ ap flip (four_less g f h)
