-- Well-formed UTF-8 is a list of characters, so texts of characters one after the other are well formed.
-- Assumes nothing.
use Prim.Native.Nat.{ℕ, zero, suc, ◌+◌, ◌≤◌, ◌<◌}
use native.Mathlib.Omega.{arith}
use mathlib.Core.Path.{◌≡◌, refl, sym, ap, ◌∙◌}
use mathlib.Core.List.{List, [], ◌∷◌, ◌++◌}
use mathlib.Core.Bool.{Bool, true, false, false≢true}
use lib.ListN.{length, get_or}
use lib.Seq.{get_or-drop}
use lib.Dec.{eqb, ltb}
use borrow.Author.Tests.{lt-ltb, ltb-true, ltb-false, eqb-true, eqb-false}
use Rattle.lists.specs.All.{All, none, next}
use Rattle.lists.specs.Pick.{pick}
use Rattle.lists.proofs.Laws.{by_pick, pick_both, pick-none}
use Rattle.lists.proofs.Stand.{Stands, stands_past, byte_0, byte_1}
use Rattle.text.specs.Text.{past_all}
use Rattle.text.proofs.Boundaries.{no_character}
use Rattle.text.specs.Utf8.{size_of, lowest_of, highest_of, second_of, is_next, char_width, well_formed_bytes}
use Rattle.text.proofs.Widths.{past_stop, past_more, char_within}
use Rattle.spell.specs.Tables.{Spelling}
use Rattle.spell.specs.Spell.{spelled}
use Rattle.block.specs.Encode.{concat}
use Rattle.laws.specs.Sayable.{every_byte}
use Rattle.laws.proofs.Back.Leaves.{byte_2, in_text, at-end}

pub data Chars : List ℕ → Type 0 where
  empty : Chars []
  one : {a : ℕ} {t : List ℕ} → size_of a ≡ 1 → Chars t → Chars (a ∷ t)
  two : {a b : ℕ} {t : List ℕ} → size_of a ≡ 2 → second_of a b ≡ true → Chars t → Chars (a ∷ b ∷ t)
  three : {a b c : ℕ} {t : List ℕ} → size_of a ≡ 3 → second_of a b ≡ true → is_next c ≡ true → Chars t → Chars (a ∷ b ∷ c ∷ t)
  four : {a b c d : ℕ} {t : List ℕ} → size_of a ≡ 4 → second_of a b ≡ true → is_next c ≡ true → is_next d ≡ true → Chars t → Chars (a ∷ b ∷ c ∷ d ∷ t)

pub chars_append : {t u : List ℕ} → Chars t → Chars u → Chars (t ++ u)
chars_append empty k = k
chars_append (one p h) k = one p (chars_append h k)
chars_append (two p q h) k = two p q (chars_append h k)
chars_append (three p q r h) k = three p q r (chars_append h k)
chars_append (four p q r s h) k = four p q r s (chars_append h k)

pub chars_concat : {X : Type 0} (f : X → List ℕ) {xs : List X} → All (λ x. Chars (f x)) xs → Chars (concat f xs)
unfolding concat
chars_concat f none = empty
chars_concat f (next p h) = chars_append p (chars_concat f h)

-- ---- where it stands

byte_3 : {s : List ℕ} {at : ℕ} {l : List ℕ} → Stands s at l → get_or s (at + 3) 0 ≡ get_or l 3 0
byte_3 {s} {at} {l} st = sym (get_or-drop at s 3 0) ∙ ap (λ (m : List ℕ). get_or m 3 0) st.rest

-- the width by the bytes that stand there
width_is : {s : List ℕ} {at a : ℕ} (l : List ℕ) → Stands s at (a ∷ l) → char_width s at
    ≡ pick (ltb (size_of a) 2) (size_of a) (pick (second_of a (get_or l 0 0)) (pick (eqb (size_of a) 2) 2 (pick (is_next (get_or l 1 0)) (pick (eqb (size_of a) 3) 3 (pick (is_next (get_or l 2 0)) 4 0)) 0)) 0)
unfolding char_width
width_is l st = rw (lt-ltb _ _ (in_text st), byte_0 st, byte_1 st, byte_2 st, byte_3 st)

-- past one character
on : {s : List ℕ} {at : ℕ} (t l : List ℕ) → 0 < length t → Stands s at (t ++ l) → char_width s at ≡ length t → past_all char_width s (at + length t) ≡ length s → past_all char_width s at ≡ length s
on {s} {at} t l n st w h = past_more char_width s at char_within (λ z. omega arith) ∙ ap (λ (k : ℕ). past_all char_width s (at + k)) w ∙ h

chars_past : {t : List ℕ} → Chars t → {s : List ℕ} {at : ℕ} → Stands s at t → past_all char_width s at ≡ length s
chars_past empty {s} {at} st = past_stop char_width s at (no_character s at (omega (arith, at-end st))) ∙ at-end st
chars_past (one {a} {t} p h) {s} {at} st = on (a ∷ []) t (omega arith) st (width_is t st ∙ rw p) (chars_past h (stands_past (a ∷ []) t s at st))
chars_past (two {a} {b} {t} p q h) {s} {at} st = on (a ∷ b ∷ []) t (omega arith) st (width_is (b ∷ t) st ∙ rw (p, q)) (chars_past h (stands_past (a ∷ b ∷ []) t s at st))
chars_past (three {a} {b} {c} {t} p q r h) {s} {at} st =
    on (a ∷ b ∷ c ∷ []) t (omega arith) st (width_is (b ∷ c ∷ t) st ∙ rw (p, q, r)) (chars_past h (stands_past (a ∷ b ∷ c ∷ []) t s at st))
chars_past (four {a} {b} {c} {d} {t} p q r w h) {s} {at} st =
    on (a ∷ b ∷ c ∷ d ∷ []) t (omega arith) st (width_is (b ∷ c ∷ d ∷ t) st ∙ rw (p, q, r, w)) (chars_past h (stands_past (a ∷ b ∷ c ∷ d ∷ []) t s at st))

pub chars_well : {t : List ℕ} → Chars t → well_formed_bytes t ≡ length t
chars_well {t} h = chars_past h (record { rest = refl; within = omega arith })

-- ---- well-formed UTF-8 is characters

size_small : (b : ℕ) → size_of b ≤ 4
unfolding size_of
size_small b =
    by_pick P (ltb b 128) 1 _ (λ _. omega arith)
    (λ _. by_pick P (ltb b 194) 0 _ (λ _. omega arith)
    (λ _. by_pick P (ltb b 224) 2 _ (λ _. omega arith)
    (λ _. by_pick P (ltb b 240) 3 _ (λ _. omega arith) (λ _. by_pick P (ltb b 245) 4 0 (λ _. omega arith) (λ _. omega arith)))))
  where
    P : ℕ → Type 0
    P n = n ≤ 4

second_zero : (a : ℕ) → second_of a 0 ≡ false
unfolding second_of lowest_of
second_zero a = rw (lt-ltb 0 _ (by_pick (λ (n : ℕ). 0 < n) (eqb a 224) 160 _ (λ _. omega arith) (λ _. by_pick (λ (n : ℕ). 0 < n) (eqb a 240) 144 128 (λ _. omega arith) (λ _. omega arith))))

next_zero : is_next 0 ≡ false
unfolding is_next
next_zero = refl

module _ (n : ℕ) (ih : (t : List ℕ) → length t ≤ n → (s : List ℕ) (at : ℕ) → Stands s at t → past_all char_width s at ≡ length s → Chars t)
    (a : ℕ) (s : List ℕ) (at : ℕ) (w : past_all char_width s at ≡ length s) where
  stuck : {A : Type 0} {l : List ℕ} → Stands s at (a ∷ l) → char_width s at ≡ 0 → A
  stuck st z = absurd (omega (arith, in_text st, past_stop char_width s at z))

  -- the rest, past a character of these bytes
  rest : (t l : List ℕ) → 0 < length t → Stands s at (t ++ l) → char_width s at ≡ length t → length l ≤ n → Chars l
  rest t l z st e h =
      let ne : char_width s at ≡ 0 → ⊥ = λ q. omega arith in
      let m : past_all char_width s (at + length t) ≡ length s = sym (past_more char_width s at char_within ne ∙ ap (λ (k : ℕ). past_all char_width s (at + k)) e) ∙ w in
      ih l h s (at + length t) (stands_past t l s at st) m

  wide_four : (x : ℕ) → size_of a ≡ x → ltb x 2 ≡ false → eqb x 2 ≡ false → eqb x 3 ≡ false → size_of a ≡ 4
  wide_four x e p q r =
      let g = ltb-false x 2 p in
      let u : x ≡ 2 → ⊥ = eqb-false x 2 q in
      let v : x ≡ 3 → ⊥ = eqb-false x 3 r in
      omega (arith, size_small a)

  by_fourth : (b c : ℕ) (l : List ℕ) → Stands s at (a ∷ b ∷ c ∷ l) → length (b ∷ c ∷ l) ≤ n → ltb (size_of a) 2 ≡ false → second_of a b ≡ true → eqb (size_of a) 2 ≡ false → is_next c ≡ true
      → eqb (size_of a) 3 ≡ false → (u : Bool) → is_next (get_or l 0 0) ≡ u → Chars (a ∷ b ∷ c ∷ l)
  by_fourth b c l st h p q r v x false e = stuck st (width_is (b ∷ c ∷ l) st ∙ rw (p, q, r, v, x, e))
  by_fourth b c [] st h p q r v x true e = absurd (false≢true (sym next_zero ∙ e))
  by_fourth b c (d ∷ l) st h p q r v x true e =
      four (wide_four (size_of a) refl p r x) q v e (rest (a ∷ b ∷ c ∷ d ∷ []) l (omega arith) st (width_is (b ∷ c ∷ d ∷ l) st ∙ rw (p, q, r, v, x, e)) (omega arith))

  by_third : (b : ℕ) (l : List ℕ) → Stands s at (a ∷ b ∷ l) → length (b ∷ l) ≤ n → ltb (size_of a) 2 ≡ false → second_of a b ≡ true → eqb (size_of a) 2 ≡ false → (u : Bool) → is_next (get_or l 0 0) ≡ u
      → (v : Bool) → eqb (size_of a) 3 ≡ v → Chars (a ∷ b ∷ l)
  by_third b l st h p q r false e v f = stuck st (width_is (b ∷ l) st ∙ rw (p, q, r, e))
  by_third b [] st h p q r true e v f = absurd (false≢true (sym next_zero ∙ e))
  by_third b (c ∷ l) st h p q r true e true f =
      three (eqb-true (size_of a) 3 f) q e (rest (a ∷ b ∷ c ∷ []) l (omega arith) st (width_is (b ∷ c ∷ l) st ∙ rw (p, q, r, e, f)) (omega arith))
  by_third b (c ∷ l) st h p q r true e false f = by_fourth b c l st h p q r e f (is_next (get_or l 0 0)) refl

  by_second : (l : List ℕ) → Stands s at (a ∷ l) → length l ≤ n → ltb (size_of a) 2 ≡ false → (u : Bool) → second_of a (get_or l 0 0) ≡ u → (v : Bool) → eqb (size_of a) 2 ≡ v → Chars (a ∷ l)
  by_second l st h p false e v f = stuck st (width_is l st ∙ rw (p, e))
  by_second [] st h p true e v f = absurd (false≢true (sym (second_zero a) ∙ e))
  by_second (b ∷ l) st h p true e true f = two (eqb-true (size_of a) 2 f) e (rest (a ∷ b ∷ []) l (omega arith) st (width_is (b ∷ l) st ∙ rw (p, e, f)) (omega arith))
  by_second (b ∷ l) st h p true e false f = by_third b l st h p e f (is_next (get_or l 0 0)) refl (eqb (size_of a) 3) refl

  by_first : (l : List ℕ) → Stands s at (a ∷ l) → length l ≤ n → (u : Bool) → ltb (size_of a) 2 ≡ u → (v : Bool) → eqb (size_of a) 0 ≡ v → Chars (a ∷ l)
  by_first l st h true e true f = stuck st (width_is l st ∙ rw (e, eqb-true (size_of a) 0 f))
  by_first l st h true e false f =
      let ne : size_of a ≡ 0 → ⊥ = eqb-false (size_of a) 0 f in
      let q : size_of a ≡ 1 = omega (arith, ltb-true (size_of a) 2 e) in
      one q (rest (a ∷ []) l (omega arith) st (width_is l st ∙ rw (e, q)) h)
  by_first l st h false e v f = by_second l st h e (second_of a (get_or l 0 0)) refl (eqb (size_of a) 2) refl

chars_step : (n : ℕ) (t : List ℕ) → ((t : List ℕ) → length t ≤ n → (s : List ℕ) (at : ℕ) → Stands s at t → past_all char_width s at ≡ length s → Chars t) → length t ≤ suc n
    → (s : List ℕ) (at : ℕ) → Stands s at t → past_all char_width s at ≡ length s → Chars t
chars_step n [] ih h s at st w = empty
chars_step n (a ∷ l) ih h s at st w = by_first n ih a s at w l st (omega arith) (ltb (size_of a) 2) refl (eqb (size_of a) 0) refl

chars_of : (n : ℕ) (t : List ℕ) → length t ≤ n → (s : List ℕ) (at : ℕ) → Stands s at t → past_all char_width s at ≡ length s → Chars t
chars_of zero [] h s at st w = empty
chars_of zero (a ∷ l) h s at st w = absurd (omega arith)
chars_of (suc n) t h s at st w = chars_step n t (chars_of n) h s at st w

pub well_chars : (t : List ℕ) → well_formed_bytes t ≡ length t → Chars t
well_chars t w = chars_of (length t) t (omega arith) t 0 (record { rest = refl; within = omega arith }) w

-- ---- ASCII, and the spellings of a table

ascii_size : (b : ℕ) → ltb b 128 ≡ true → size_of b ≡ 1
unfolding size_of
ascii_size b h = rw h

pub ascii_chars : (t : List ℕ) → every_byte (λ b. ltb b 128) t ≡ true → Chars t
ascii_chars [] h = empty
ascii_chars (b ∷ t) h = let (p, q) = pick_both (ltb b 128) (every_byte (λ b. ltb b 128) t) h in one (ascii_size b p) (ascii_chars t q)

-- a test that antt computes
abbrev pub wells : List Spelling → Bool
wells [] = true
wells (e ∷ es) = pick (eqb (well_formed_bytes e.bytes) (length e.bytes)) (wells es) false

pub spelled_chars : (es : List Spelling) → wells es ≡ true → (n : ℕ) → Chars (spelled es n)
unfolding spelled
spelled_chars [] h n = empty
spelled_chars (e ∷ es) h n =
    let (p, q) = pick_both (eqb (well_formed_bytes e.bytes) (length e.bytes)) (wells es) h in
    by_pick Chars (eqb e.number n) e.bytes (spelled es n) (λ _. well_chars e.bytes (eqb-true _ _ p)) (λ _. spelled_chars es q n)

-- ---- every byte of it is one

first_small : (b n : ℕ) → size_of b ≡ n → 0 < n → b < 256
unfolding size_of
first_small b n e h =
    by_pick P (ltb b 128) 1 _ (λ q _. omega (arith, ltb-true b 128 q))
    (λ _. by_pick P (ltb b 194) 0 _ (λ _ z. absurd (omega arith))
    (λ _. by_pick P (ltb b 224) 2 _ (λ q _. omega (arith, ltb-true b 224 q))
    (λ _. by_pick P (ltb b 240) 3 _ (λ q _. omega (arith, ltb-true b 240 q)) (λ _. by_pick P (ltb b 245) 4 0 (λ q _. omega (arith, ltb-true b 245 q)) (λ _ z. absurd (omega arith)))))) (omega arith)
  where
    P : ℕ → Type 0
    P m = 0 < m → b < 256

next_small : (b : ℕ) → is_next b ≡ true → b < 256
unfolding is_next
next_small b h = omega (arith, ltb-true b 192 (pick-none (ltb b 128) (ltb b 192) h).1)

second-small : (a b : ℕ) → second_of a b ≡ true → b < 256
unfolding second_of highest_of
second-small a b h =
    let l = ltb-true b _ (pick-none (ltb b (lowest_of a)) _ h).1 in
    omega (arith, by_pick (λ (n : ℕ). n ≤ 192) (eqb a 237) 160 _ (λ _. omega arith) (λ _. by_pick (λ (n : ℕ). n ≤ 192) (eqb a 244) 144 192 (λ _. omega arith) (λ _. omega arith)))

abbrev Small : List ℕ → Type 0
Small t = (k : ℕ) → get_or t k 0 < 256

small-on : (b : ℕ) (t : List ℕ) → b < 256 → Small t → Small (b ∷ t)
small-on b t h s zero = h
small-on b t h s (suc k) = s k

pub chars_small : {t : List ℕ} → Chars t → Small t
chars_small empty = λ k. omega arith
chars_small (one {a} {t} p h) = small-on a t (first_small a 1 p (omega arith)) (chars_small h)
chars_small (two {a} {b} {t} p q h) = small-on a (b ∷ t) (first_small a 2 p (omega arith)) (small-on b t (second-small a b q) (chars_small h))
chars_small (three {a} {b} {c} {t} p q r h) =
    small-on a (b ∷ c ∷ t) (first_small a 3 p (omega arith)) (small-on b (c ∷ t) (second-small a b q) (small-on c t (next_small c r) (chars_small h)))
chars_small (four {a} {b} {c} {d} {t} p q r s h) =
    small-on a (b ∷ c ∷ d ∷ t) (first_small a 4 p (omega arith))
    (small-on b (c ∷ d ∷ t) (second-small a b q) (small-on c (d ∷ t) (next_small c r) (small-on d t (next_small d s) (chars_small h))))
