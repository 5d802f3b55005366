-- The leaves read what was written: byte strings, blanks, digits, tails, breaks.
-- Assumes nothing.
use Rattle.std.specs.Prelude.{Some, None, Ok, Err}
use Prim.Native.Nat.{ℕ, zero, suc, ◌+◌, ◌*◌, ◌-◌, ◌/◌, ◌%◌, ◌≤◌, ◌<◌}
use native.Mathlib.Nat.{add-zero}
use native.Mathlib.Omega.{arith}
use mathlib.Core.Path.{◌≡◌, refl, sym, ◌∙◌, ap}
use mathlib.Core.List.{List, [], ◌∷◌, ◌++◌, append_assoc}
use mathlib.Core.Bool.{Bool, true, false, not, false≢true}
use lib.ListN.{length, get_or, replicate, length-append, length-drop, drop}
use lib.Dec.{eqb, ltb}
use borrow.Author.Tests.{ne_eqb, eq-eqb, le-ltb, le-leb, ltb-true, ltb-false, not-true}
use Rattle.lists.specs.Pick.{pick}
use Rattle.lists.proofs.Laws.{pick_both, range, range_at}
use Rattle.lists.proofs.Stand.{Stands, Came, Reads, Any, Off, then, stands_past, stands_same, stands_one, byte_0}
use Rattle.lent.specs.Numbers.{digits_from, decimal, padded}
use Rattle.lent.proofs.Digits.{decimal-one}
use Rattle.text.specs.Text.{cursor, is_blank, is_text, is_digit, span_from, span_at, prefix_from, stands_at, tag_at, break_at, tail_at, line_end_at, blanks_at, number_from, number_at, digits_at}
use Rattle.text.specs.declared.FigureError.TheVariants.{Absent}
use Rattle.text.proofs.Laws.{digit_bounds}
use Rattle.spell.proofs.Written.{clash, stands_other}
use Rattle.laws.specs.Sayable.{every_byte}
use lib.Seq.{get_or-drop}

-- ---- what stands there

pub byte_2 : {s : List ℕ} {at : ℕ} {l : List ℕ} → Stands s at l → get_or s (at + 2) 0 ≡ get_or l 2 0
byte_2 {s} {at} {l} st = sym (get_or-drop at s 2 0) ∙ ap (λ (m : List ℕ). get_or m 2 0) st.rest

pub in_text : {s : List ℕ} {at b : ℕ} {l : List ℕ} → Stands s at (b ∷ l) → at < length s
in_text {s} {at} {b} {l} st =
    let n : length (drop at s) ≡ suc (length l) = ap length st.rest in
    let w = st.within in
    omega (arith, n, length-drop at s)

-- nothing stands at the end
pub at-end : {s : List ℕ} {e : ℕ} → Stands s e [] → e ≡ length s
at-end {s} {e} st =
    let n : length (drop e s) ≡ 0 = ap length st.rest in
    let w = st.within in
    omega (arith, n, length-drop e s)

-- ---- classes

pub all_append : (f : ℕ → Bool) (t u : List ℕ) → every_byte f t ≡ true → every_byte f u ≡ true → every_byte f (t ++ u) ≡ true
all_append f [] u h k = k
all_append f (b ∷ t) u h k = let (p, q) = pick_both (f b) (every_byte f t) h in rw (p, all_append f t u q k)

pub all_replicate : (f : ℕ → Bool) (n b : ℕ) → f b ≡ true → every_byte f (replicate n b) ≡ true
all_replicate f zero b h = refl
all_replicate f (suc n) b h = rw (h, all_replicate f n b h)

pub all_of : (f g : ℕ → Bool) → ((b : ℕ) → f b ≡ true → g b ≡ true) → (t : List ℕ) → every_byte f t ≡ true → every_byte g t ≡ true
all_of f g k [] h = refl
all_of f g k (b ∷ t) h = let (p, q) = pick_both (f b) (every_byte f t) h in rw (k b p, all_of f g k t q)

-- what holds of each byte from 48 to 57, which antt computes, holds of each digit
pub digit_is : (f : ℕ → Bool) → range f 48 10 ≡ true → (b : ℕ) → is_digit b ≡ true → f b ≡ true
digit_is f h b t = let (p, q) = digit_bounds b t in range_at f 10 48 b h p q

pub digit_off : (f : ℕ → Bool) → range (λ b. not (f b)) 48 10 ≡ true → (b : ℕ) → is_digit b ≡ true → f b ≡ false
digit_off f h b t = not-true (f b) (digit_is (λ b. not (f b)) h b t)

-- what is of neither of two classes
pub pick_neither : (t u : Bool) → pick t true u ≡ false → (t ≡ false) × (u ≡ false)
pick_neither true u h = absurd (false≢true (sym h))
pick_neither false u h = (refl, h)

-- ---- a byte string that does not stand there

pub tag_absent : (a : List ℕ) {s : List ℕ} {at : ℕ} {r : List ℕ} → Stands s at r → prefix_from a r ≡ false → tag_at a s at ≡ None
unfolding tag_at stands_at
tag_absent a st h = rw (st.rest, h)

pub tag_fails : (a t : List ℕ) → clash a t ≡ false → {s : List ℕ} {at : ℕ} (r : List ℕ) → Stands s at (t ++ r) → tag_at a s at ≡ None
unfolding tag_at
tag_fails a t h r st = rw (stands_other a t r st h)

-- a first byte that is another
pub byte_fails : (b : ℕ) (t : List ℕ) {s : List ℕ} {at : ℕ} {r : List ℕ} → Stands s at r → eqb (get_or r 0 0) b ≡ false → tag_at (b ∷ t) s at ≡ None
unfolding tag_at stands_at prefix_from
byte_fails b t {r = []} st h = rw st.rest
byte_fails b t {r = x ∷ r} st h = rw (st.rest, h)

-- ---- a span

span-from : (f : ℕ → Bool) (t r : List ℕ) (at : ℕ) → every_byte f t ≡ true → Off f r → span_from f (t ++ r) at ≡ at + length t
unfolding span_from
span-from f [] [] at h c = sym (add-zero at)
span-from f [] (b ∷ r) at h c = rw c (sym (add-zero at))
span-from f (b ∷ t) r at h c =
    let (p, q) = pick_both (f b) (every_byte f t) h in
    let z : at + 1 + length t ≡ at + suc (length t) = omega arith in
    rw p (span-from f t r (at + 1) q c ∙ z)

pub span-reads : (f : ℕ → Bool) (t : List ℕ) → every_byte f t ≡ true → Reads (span_at f) (λ e. e) t (Off f)
unfolding span_at
span-reads f t h = record { run = λ s at r st c. record { end = at + length t; is = rw st.rest (span-from f t r at h c); left = stands_past t r s at st } }

-- no blanks, or n of them
pub blanks_none : {s : List ℕ} {at : ℕ} {r : List ℕ} → Stands s at r → Off is_blank r → blanks_at s at ≡ at
blanks_none {s} {at} {r} st c = let w = (span-reads is_blank [] refl).run s at r st c in w.is ∙ sym (stands_one st w.left)

pub blanks_read : (n : ℕ) → Reads blanks_at (λ e. e) (replicate n 32) (Off is_blank)
blanks_read n = span-reads is_blank (replicate n 32) (all_replicate is_blank n 32 refl)

-- ---- digits

abbrev pub value : List ℕ → ℕ → ℕ
value [] n = n
value (b ∷ t) n = value t (n * 10 + (b - 48))

number-from : (t r : List ℕ) (n : ℕ) → every_byte is_digit t ≡ true → Off is_digit r → number_from (t ++ r) n ≡ value t n
unfolding number_from
number-from [] [] n h c = refl
number-from [] (b ∷ r) n h c = rw c
number-from (b ∷ t) r n h c =
    let (p, q) = pick_both (is_digit b) (every_byte is_digit t) h in
    rw p (number-from t r (n * 10 + (b - 48)) q c)

-- a text is the digits of a number
pub record Digits (t : List ℕ) (n : ℕ) : Type 0 where
  pub digits : every_byte is_digit t ≡ true
  pub some : 0 < length t
  pub makes : value t 0 ≡ n

pub digits-read : (largest : ℕ) (t : List ℕ) (n : ℕ) → Digits t n → n ≤ largest → Reads (digits_at largest) (λ e. Ok (n, cursor e)) t (Off is_digit)
unfolding digits_at number_at
digits-read largest t n d v = record {
  run = λ s at r st c.
      let h = d.digits in
      let w = (span-reads is_digit t h).run s at r st c in
      let k = d.some in
      let z : w.end ≡ at + length t = stands_one w.left (stands_past t r s at st) in
      let ne : w.end ≡ at → ⊥ = λ e. omega arith in
      record { end = w.end; is = rw (w.is, ne_eqb _ _ ne, st.rest, number-from t r 0 h c, d.makes, le-leb _ _ v); left = w.left };
}

pub digits_fail : (largest : ℕ) {s : List ℕ} {at : ℕ} {r : List ℕ} → Stands s at r → Off is_digit r → digits_at largest s at ≡ Err Absent
unfolding digits_at
digits_fail largest {s} {at} {r} st o =
    then (span-reads is_digit [] refl) st o λ e₁ i₁ l₁.
    rw (i₁, eq-eqb _ _ (stands_one l₁ st))

pub value-append : (t u : List ℕ) (n : ℕ) → value (t ++ u) n ≡ value u (value t n)
value-append [] u n = refl
value-append (b ∷ t) u n = value-append t u (n * 10 + (b - 48))

digit-made : (d : ℕ) → d < 10 → is_digit (48 + d) ≡ true
digit-made d h = rw (le-ltb (48 + d) 48 (omega arith)) (le-leb (48 + d) 57 (omega arith))

digits-from : (k n : ℕ) → n < k → Digits (digits_from k n) n
unfolding digits_from
digits-from zero n h = absurd (omega arith)
digits-from (suc k) n h = go (ltb n 10) refl (digits-from k (n / 10))
  where
    go : (u : Bool) → ltb n 10 ≡ u → (n / 10 < k → Digits (digits_from k (n / 10)) (n / 10))
        → Digits (pick u ((48 + n) ∷ []) (digits_from k (n / 10) ++ ((48 + n % 10) ∷ []))) n
    go true e ih =
        let l : n < 10 = ltb-true _ _ e in
        record { digits = rw (digit-made n l); some = omega arith; makes = omega arith }
    go false e ih =
        let g : 10 ≤ n = ltb-false _ _ e in
        let i = ih (omega arith) in
        let d : every_byte is_digit ((48 + n % 10) ∷ []) ≡ true = rw (digit-made (n % 10) (omega arith)) in
        record {
          digits = all_append is_digit (digits_from k (n / 10)) ((48 + n % 10) ∷ []) i.digits d;
          some = omega (arith, length-append (digits_from k (n / 10)) ((48 + n % 10) ∷ []));
          makes = value-append (digits_from k (n / 10)) ((48 + n % 10) ∷ []) 0 ∙ rw i.makes (omega arith);
        }

pub decimal-digits : (n : ℕ) → Digits (decimal n) n
unfolding decimal
decimal-digits n = digits-from (suc n) n (omega arith)

pub decimal-reads : (n : ℕ) → n ≤ 18446744073709551615 → Reads (digits_at 18446744073709551615) (λ e. Ok (n, cursor e)) (decimal n) (Off is_digit)
decimal-reads n = digits-read 18446744073709551615 (decimal n) n (decimal-digits n)

-- with zeros in front of it
value_zeros : (k : ℕ) (t : List ℕ) → value (replicate k 48 ++ t) 0 ≡ value t 0
value_zeros zero t = refl
value_zeros (suc k) t = value_zeros k t

pub zeros_digits : (w n : ℕ) → Digits (padded w 48 n) n
unfolding padded
zeros_digits w n =
    let d = decimal-digits n in
    let k : ℕ = w - length (decimal n) in
    record {
      digits = all_append is_digit (replicate k 48) (decimal n) (all_replicate is_digit k 48 refl) d.digits;
      some = let s = d.some in omega (arith, length-append (replicate k 48) (decimal n));
      makes = value_zeros k (decimal n) ∙ d.makes;
    }

-- two numbers as one: the second below ten
pub pair_digits : (x y : ℕ) → y ≤ 9 → Digits (decimal x ++ decimal y) (x * 10 + y)
pair_digits x y h =
    let d = decimal-digits x in
    let e = decimal-digits y in
    let z : 48 + y - 48 ≡ y = omega arith in
    record {
      digits = all_append is_digit (decimal x) (decimal y) d.digits e.digits;
      some = let k = d.some in omega (arith, length-append (decimal x) (decimal y));
      makes = value-append (decimal x) (decimal y) 0 ∙ rw (d.makes, decimal-one y (omega arith), z);
    }

-- how digits begin
pub digits_off : (f : ℕ → Bool) → range (λ b. not (f b)) 48 10 ≡ true → (t : List ℕ) {n : ℕ} (r : List ℕ) → Digits t n → Off f (t ++ r)
digits_off f h [] r d = let s = d.some in absurd (omega arith)
digits_off f h (b ∷ t) r d = digit_off f h b (pick_both (is_digit b) (every_byte is_digit t) d.digits).0

-- a number with blanks in front of it
pub padded_blanks : (w n : ℕ) {s : List ℕ} {at : ℕ} (r : List ℕ) → Stands s at (padded w 32 n ++ r) → Came (blanks_at s at) (λ e. e) s (decimal n ++ r)
unfolding padded
padded_blanks w n {s} {at} r st =
    let k : ℕ = w - length (decimal n) in
    (blanks_read k).run s at (decimal n ++ r) (stands_same (append_assoc (replicate k 32) (decimal n) r) st) (digits_off is_blank refl (decimal n) r (decimal-digits n))

-- it begins with a blank or a digit
pub padded_off : (f : ℕ → Bool) (w n : ℕ) (r : List ℕ) → f 32 ≡ false → range (λ b. not (f b)) 48 10 ≡ true → Off f (padded w 32 n ++ r)
unfolding padded
padded_off f w n r h k = go (w - length (decimal n)) (decimal n) (decimal-digits n)
  where
    go : (i : ℕ) (t : List ℕ) → Digits t n → Off f (replicate i 32 ++ t ++ r)
    go zero t d = digits_off f k t r d
    go (suc i) t d = h

-- ---- the end of a line

-- a tail before an LF, and the LF
pub tail_reads : (t : List ℕ) → every_byte is_text t ≡ true → Reads tail_at (λ e. Some (cursor e)) t (λ r. get_or r 0 0 ≡ 10)
unfolding tail_at
tail_reads t h = record {
  run = λ s at r st c.
      let o : Off is_text r = rw c in
      let w = (span-reads is_text t h).run s at r st o in
      record { end = w.end; is = rw (w.is, byte_0 w.left, c); left = w.left };
}

pub break-reads : Reads break_at (λ e. Some (cursor e)) (10 ∷ []) Any
unfolding break_at
break-reads = record { run = λ s at r st c. record { end = at + 1; is = rw (byte_0 st); left = stands_past (10 ∷ []) r s at st } }

pub line-end-reads : (t : List ℕ) → every_byte is_text t ≡ true → Reads line_end_at (λ e. Some (cursor e)) (t ++ (10 ∷ [])) Any
unfolding line_end_at
line-end-reads t h = record {
  run = λ s at r st c.
      then (tail_reads t h) (simp append_assoc at st) refl λ e₁ i₁ l₁.
      then break-reads l₁ tt λ e₂ i₂ l₂.
      record { end = e₂; is = rw (i₁, i₂); left = l₂ };
}
