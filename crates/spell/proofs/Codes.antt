-- Digits by their codes: a character of three bytes is known by the number that they make.
-- Assumes nothing.
use Prim.Native.Nat.{ℕ, zero, suc, ◌+◌, ◌-◌, ◌/◌, ◌%◌, ◌≤◌, ◌<◌}
use native.Mathlib.Omega.{arith}
use native.Mathlib.Decide.{dec_lt}
use native.Mathlib.Nat.{add-zero}
use mathlib.Core.Path.{◌≡◌, refl, sym, ap, ◌∙◌}
use mathlib.Core.List.{List, [], ◌∷◌, ◌++◌}
use mathlib.Core.Bool.{Bool, true, false}
use lib.ListN.{length, get_or, drop}
use lib.Dec.{eqb, leb, ltb}
use lib.Seq.{get_or-drop}
use borrow.Author.Tests.{eq-eqb, ne_eqb, eqb-true, eqb-false, ltb-true, leb-true}
use Rattle.lists.specs.Pick.{pick}
use Rattle.lists.specs.Test.{Test, ◌equals◌, holds, ◌and◌, each, all_below, flag}
use Rattle.lists.proofs.Laws.{drop_step, pick_both}
use Rattle.lists.proofs.Tests.{says}
use Rattle.text.specs.Text.{prefix_from, stands_at}
use Rattle.spell.specs.Tables.{Spelling, numerals, move_kinds}
use Rattle.spell.specs.Spell.{spelled, code_of, code}
use Rattle.spell.specs.inner.Codes.{all_bytes, bytes_of, codes, code_at, is_digit_table}

-- ---- a character of three bytes

-- what `all_bytes` says of three
three : (a b c : ℕ) → all_bytes (a ∷ b ∷ c ∷ []) ≡ true → (a < 256) × (b < 256) × (0 < c) × (c < 256)
three a b c h =
    let (_, h₁) = pick_both (ltb 0 a) _ h in
    let (a₁, h₂) = pick_both (ltb a 256) _ h₁ in
    let (_, h₃) = pick_both (ltb 0 b) _ h₂ in
    let (b₁, h₄) = pick_both (ltb b 256) _ h₃ in
    let (c₀, h₅) = pick_both (ltb 0 c) _ h₄ in
    let (c₁, _) = pick_both (ltb c 256) _ h₅ in
    (ltb-true a 256 a₁, ltb-true b 256 b₁, ltb-true 0 c c₀, ltb-true c 256 c₁)

-- three bytes, one of which may be missing
pub record Near (l : List ℕ) : Type 0 where
  pub first : get_or l 0 0 < 256
  pub second : get_or l 1 0 < 256
  pub third : get_or l 2 0 < 256

neither : (u : Bool) → pick u false false ≡ false
neither true = refl
neither false = refl

module _ (a b c : ℕ) (t : all_bytes (a ∷ b ∷ c ∷ []) ≡ true) where
  -- no other three bytes have its code
  same_key : (l : List ℕ) → Near l → code l ≡ code (a ∷ b ∷ c ∷ []) → (get_or l 0 0 ≡ a) × (get_or l 1 0 ≡ b) × (get_or l 2 0 ≡ c)
  same_key l n e =
      let (a₁, b₁, c₀, c₁) = three a b c t in
      let n₁ = n.first in
      let n₂ = n.second in
      let n₃ = n.third in
      (omega arith, omega arith, omega arith)

  -- a list starts with it where the list has its code
  prefix_three : (l : List ℕ) → Near l → prefix_from (a ∷ b ∷ c ∷ []) l ≡ eqb (code l) (code (a ∷ b ∷ c ∷ []))
  unfolding prefix_from
  prefix_three [] n = sym (ne_eqb (code []) _ (λ e. omega (arith, three a b c t, same_key [] n e)))
  prefix_three (x ∷ []) n = neither (eqb x a) ∙ sym (ne_eqb (code (x ∷ [])) _ (λ e. omega (arith, three a b c t, same_key (x ∷ []) n e)))
  prefix_three (x ∷ y ∷ []) n =
      ap (λ (u : Bool). pick (eqb x a) u false) (neither (eqb y b)) ∙ neither (eqb x a)
      ∙ sym (ne_eqb (code (x ∷ y ∷ [])) _ (λ e. omega (arith, three a b c t, same_key (x ∷ y ∷ []) n e)))
  prefix_three (x ∷ y ∷ z ∷ l) n = go (eqb (code (x ∷ y ∷ z ∷ l)) (code (a ∷ b ∷ c ∷ []))) refl
    where
      go : (u : Bool) → eqb (code (x ∷ y ∷ z ∷ l)) (code (a ∷ b ∷ c ∷ [])) ≡ u
          → pick (eqb x a) (pick (eqb y b) (pick (eqb z c) true false) false) false ≡ u
      go true e =
          let (p, q, r) = same_key (x ∷ y ∷ z ∷ l) n (eqb-true _ _ e) in
          rw (eq-eqb x a p, eq-eqb y b q, eq-eqb z c r)
      go false e = off (eqb x a) (eqb y b) (eqb z c) refl refl refl
        where
          off : (u v w : Bool) → eqb x a ≡ u → eqb y b ≡ v → eqb z c ≡ w → pick u (pick v (pick w true false) false) false ≡ false
          off true true true p q r =
              let z₁ : x ≡ a = eqb-true x a p in
              let z₂ : y ≡ b = eqb-true y b q in
              let z₃ : z ≡ c = eqb-true z c r in
              absurd (eqb-false (code (x ∷ y ∷ z ∷ l)) (code (a ∷ b ∷ c ∷ [])) e (omega arith))
          off true true false p q r = refl
          off true false w p q r = refl
          off false v w p q r = refl

-- the code at a place is that of the byte there and the two after it
pub key_of : (s : List ℕ) (at a b : ℕ) → a ≡ at + 1 → b ≡ at + 2 → code_at s at ≡ code_of (get_or s at 0) (get_or s a 0) (get_or s b 0)
unfolding code_at
key_of s at a b p q = rw (p, q)

-- the same of a text and a place
pub key-at : (s : List ℕ) (at : ℕ) → code (drop at s) ≡ code_at s at
unfolding code_at
key-at s at = rw (get_or-drop at s 0 0, get_or-drop at s 1 0, get_or-drop at s 2 0, add-zero at)

pub stands_key : (t s : List ℕ) (at : ℕ) → length t ≡ 3 → all_bytes t ≡ true → Near (drop at s) → stands_at t s at ≡ eqb (code_at s at) (code t)
unfolding stands_at
stands_key [] s at h b n = absurd (omega arith)
stands_key (x ∷ []) s at h b n = absurd (omega arith)
stands_key (x ∷ y ∷ []) s at h b n = absurd (omega arith)
stands_key (x ∷ y ∷ z ∷ []) s at h b n = prefix_three x y z b (drop at s) n ∙ ap (λ (k : ℕ). eqb k (code (x ∷ y ∷ z ∷ []))) (key-at s at)
stands_key (x ∷ y ∷ z ∷ w ∷ t) s at h b n = absurd (omega arith)

-- three bytes are those of their code
pub bytes-key : (a b c : ℕ) → a < 256 → b < 256 → c < 256 → bytes_of (code_of a b c) ≡ a ∷ b ∷ c ∷ []
bytes-key a b c p q r =
    let k : ℕ = code_of a b c in
    let e₀ : k / 65536 % 256 ≡ a = omega arith in
    let e₁ : k / 256 % 256 ≡ b = omega arith in
    let e₂ : k % 256 ≡ c = omega arith in
    ap (λ (i : ℕ). i ∷ k / 256 % 256 ∷ k % 256 ∷ []) e₀ ∙ ap (λ (i : ℕ). a ∷ i ∷ k % 256 ∷ []) e₁ ∙ ap (λ (i : ℕ). a ∷ b ∷ i ∷ []) e₂

pub key-bytes : (t : List ℕ) → length t ≡ 3 → all_bytes t ≡ true → bytes_of (code t) ≡ t
key-bytes [] h b = absurd (omega arith)
key-bytes (x ∷ []) h b = absurd (omega arith)
key-bytes (x ∷ y ∷ []) h b = absurd (omega arith)
key-bytes (x ∷ y ∷ z ∷ []) h b =
    let (p, q, r₀, r) = three x y z b in
    bytes-key x y z p q r
key-bytes (x ∷ y ∷ z ∷ w ∷ t) h b = absurd (omega arith)

-- the numbers 1 to 9 of a table have three bytes each
abbrev threes : List Spelling → Test
threes es = each 9 (λ i. length (spelled es (suc i)) equals 3 and holds (all_bytes (spelled es (suc i))))

-- so each is the bytes of its code
key-spelled : (es : List Spelling) → flag (threes es) ≡ true → (n : ℕ) → 1 ≤ n → n ≤ 9 → bytes_of (code (spelled es n)) ≡ spelled es n
key-spelled es h zero l u = absurd (omega arith)
key-spelled es h (suc i) l u = let (p, q) = says (threes es) h i (omega arith) in key-bytes (spelled es (suc i)) p q

pub numeral_bytes : {n r : ℕ} → r ≡ code (spelled numerals n) → 1 ≤ n → n ≤ 9 → bytes_of r ≡ spelled numerals n
unfolding spelled all_below
numeral_bytes {n = n} e l u = ap bytes_of e ∙ key-spelled numerals refl n l u

pub kind-bytes : {n r : ℕ} → r ≡ code (spelled move_kinds n) → 1 ≤ n → n ≤ 9 → bytes_of r ≡ spelled move_kinds n
unfolding spelled all_below
kind-bytes {n = n} e l u = ap bytes_of e ∙ key-spelled move_kinds refl n l u

drop-next : (s : List ℕ) (at e : ℕ) → at < length s → e ≡ at + 1 → drop at s ≡ get_or s at 0 ∷ drop e s
drop-next s at e h z = rw z (drop_step s at h)

-- what stands at a place begins with the bytes of its code
pub key_stands : (s : List ℕ) (at : ℕ) → ((i : ℕ) → get_or s i 0 < 256) → at + 3 ≤ length s → drop at s ≡ bytes_of (code_at s at) ++ drop (at + 3) s
unfolding code_at
key_stands s at h k =
    rw (drop-next s at (at + 1) (omega arith) refl, drop-next s (at + 1) (at + 2) (omega arith) (omega arith), drop-next s (at + 2) (at + 3) (omega arith) (omega arith))
    (ap (λ (l : List ℕ). l ++ drop (at + 3) s) (sym (bytes-key _ _ _ (h at) (h (at + 1)) (h (at + 2)))))

-- the bytes of a slice, at a place
pub near : (s : List ℕ) (at : ℕ) → ((i : ℕ) → get_or s i 0 < 256) → Near (drop at s)
near s at h = record { first = rw (get_or-drop at s 0 0) (h (at + 0)); second = rw (get_or-drop at s 1 0) (h (at + 1)); third = rw (get_or-drop at s 2 0) (h (at + 2)) }

-- ---- a table of digits

-- n is none of 1 to k, as a match on them leaves it
abbrev pub Unlike : ℕ → ℕ → Type 0
Unlike zero n = Unit {0}
Unlike (suc k) n = Unlike k n × (n ≡ suc k → ⊥)

unlike_other : (k n m : ℕ) → Unlike k n → 1 ≤ m → m ≤ k → m ≡ n → ⊥
unlike_other zero n m u l h e = omega arith
unlike_other (suc k) n m u l h e = go (dec_lt k m) (λ g. unlike_other k n m u.0 l g e)
  where
    go : Dec (k < m) → (m ≤ k → ⊥) → ⊥
    go (yes g) ih = u.1 (omega arith)
    go (no g) ih = ih (omega arith)

-- every number of a table is one of 1 to k
abbrev pub up_to : ℕ → List Spelling → Bool
up_to k [] = true
up_to k (e ∷ es) = pick (ltb 0 e.number) (pick (leb e.number k) (up_to k es) false) false

-- so no other has a spelling
pub unspelled : (k : ℕ) (es : List Spelling) → up_to k es ≡ true → (n : ℕ) → Unlike k n → spelled es n ≡ []
unfolding spelled
unspelled k [] h n u = refl
unspelled k (e ∷ es) h n u =
    let (p, h₁) = pick_both (ltb 0 e.number) _ h in
    let (q, r) = pick_both (leb e.number k) (up_to k es) h₁ in
    rw (ne_eqb e.number n (unlike_other k n e.number u (ltb-true 0 e.number p) (leb-true e.number k q))) (unspelled k es r n u)

pub keys_length : (es : List Spelling) → length (codes es) ≡ length es
keys_length [] = refl
keys_length (e ∷ es) = ap suc (keys_length es)

-- its first entry: the number, the three bytes, and the rest
pub record Digit (i : ℕ) (e : Spelling) (es : List Spelling) : Type 0 where
  pub number : e.number ≡ i
  pub size : length e.bytes ≡ 3
  pub bytes : all_bytes e.bytes ≡ true
  pub after : is_digit_table (i + 1) es ≡ true

digit-head : (i : ℕ) (e : Spelling) (es : List Spelling) → is_digit_table i (e ∷ es) ≡ true → Digit i e es
digit-head i e es h =
    let (p, h₁) = pick_both (eqb e.number i) _ h in
    let (q, h₂) = pick_both (eqb (length e.bytes) 3) _ h₁ in
    let (r, h₃) = pick_both (all_bytes e.bytes) (is_digit_table (i + 1) es) h₂ in
    record { number = eqb-true _ _ p; size = eqb-true _ _ q; bytes = r; after = h₃ }

-- a number of the table is written by its code
pub digit-spelled : (i : ℕ) (es : List Spelling) → is_digit_table i es ≡ true → (n : ℕ) → i ≤ n → n < i + length es
    → spelled es n ≡ bytes_of (get_or (codes es) (n - i) 0)
unfolding spelled
digit-spelled i [] h n l k = absurd (omega arith)
digit-spelled i (e ∷ es) h n l k = go (eqb e.number n) refl (digit-spelled (i + 1) es d.after n)
  where
    d : Digit i e es
    d = digit-head i e es h

    go : (u : Bool) → eqb e.number n ≡ u → (i + 1 ≤ n → n < i + 1 + length es → spelled es n ≡ bytes_of (get_or (codes es) (n - (i + 1)) 0))
        → pick u e.bytes (spelled es n) ≡ bytes_of (get_or (code e.bytes ∷ codes es) (n - i) 0)
    go true q ih =
        let z : n - i ≡ 0 = omega (arith, d.number, eqb-true e.number n q) in
        rw z (sym (key-bytes e.bytes d.size d.bytes))
    go false q ih =
        let f : e.number ≡ n → ⊥ = eqb-false e.number n q in
        let g : i ≡ n → ⊥ = λ r. f (d.number ∙ r) in
        let z : n - i ≡ suc (n - (i + 1)) = omega arith in
        rw z (ih (omega arith) (omega arith))

-- and no other is
pub digit_unspelled : (i : ℕ) (es : List Spelling) → is_digit_table i es ≡ true → (n : ℕ) → (i ≤ n → n < i + length es → ⊥) → spelled es n ≡ []
unfolding spelled
digit_unspelled i [] h n k = refl
digit_unspelled i (e ∷ es) h n k =
    let d = digit-head i e es h in
    rw (ne_eqb e.number n (λ q. k (omega (arith, d.number)) (omega (arith, d.number)))) (digit_unspelled (i + 1) es d.after n (λ p q. k (omega arith) (omega arith)))
