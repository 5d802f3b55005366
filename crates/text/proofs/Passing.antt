-- Laws of bytes that are passed many at a time.
-- Assumes nothing.
use Prim.Native.Nat.{ℕ, zero, suc, ◌+◌, ◌*◌, ◌≤◌, ◌<◌}
use native.Mathlib.Nat.{add-zero}
use native.Mathlib.Omega.{arith}
use mathlib.Core.Path.{◌≡◌, refl, sym, ap, subst, ◌∙◌}
use mathlib.Core.List.{List}
use lib.ListN.{length, get_or}
use borrow.Author.Tests.{lt-ltb, le-ltb, ne_eqb}
use Rattle.text.specs.inner.Runs.{Run, Count}
use Rattle.text.specs.Text.{is_text, text_at, past_all}
use Rattle.text.specs.Utf8.{size_of, lowest_of, highest_of, second_of, is_next, char_width}
use Rattle.text.specs.inner.Runs.{Three}
use Rattle.text.proofs.Laws.{span-on}
use Rattle.text.proofs.Widths.{past_more, char_within}

-- nothing is passed
pub run_none : (f : ℕ → ℕ) (s : List ℕ) (at : ℕ) → Run f s at at
run_none f s at = record { from = omega arith; within = omega arith; same = refl }

-- one run after another
pub run_on : {f : ℕ → ℕ} {s : List ℕ} {a b c : ℕ} → Run f s a b → Run f s b c → Run f s a c
run_on p q =
    let p₁ = p.from in
    let p₂ = p.within in
    let q₁ = q.from in
    let q₂ = q.within in
    record { from = omega arith; within = omega arith; same = p.same ∙ q.same }

-- one step more, after k
step-on : (f : ℕ → ℕ) (at k : ℕ) → f at ≡ f (at + k) → f (at + k) ≡ f (at + k + 1) → f at ≡ f (at + (k + 1))
step-on f at k p q = let e : at + k + 1 ≡ at + (k + 1) = omega arith in p ∙ q ∙ ap f e

-- one byte more, after k
pub run_more : (f : ℕ → ℕ) (s : List ℕ) (at k : ℕ) → at + k < length s → f (at + k) ≡ f (at + k + 1) → Run f s at (at + k) → Run f s at (at + (k + 1))
run_more f s at k h e p = record { from = omega arith; within = omega arith; same = step-on f at k p.same e }

-- ---- bytes that are counted

-- two counts are one
pub count-on : {j k p q : ℕ} {A B : Type 0} → Count j p A → Count k q B → Count (j + k) (p + q) (A × B)
count-on c d =
    let c₁ = c.most in
    let d₁ = d.most in
    record { most = omega arith; all = λ e. (c.all (omega arith), d.all (omega arith)) }

-- four bytes of a class of which f passes each
pub four_run : (f : ℕ → ℕ) (P : ℕ → Type 0) (s : List ℕ) → ((at : ℕ) → at < length s → P (get_or s at 0) → f at ≡ f (at + 1)) → (at r : ℕ) → at + 4 ≤ length s
    → Count 4 r (((P (get_or s at 0) × P (get_or s (at + 1) 0)) × P (get_or s (at + 2) 0)) × P (get_or s (at + 3) 0)) → Count 4 r (Run f s at (at + 4))
four_run f P s on at r h c = record {
  most = c.most;
  all = λ e.
      let (((p, q), v), w) = c.all e in
      record {
        from = omega arith;
        within = omega arith;
        same = step-on f at 3 (step-on f at 2 (step-on f at 1 (on at (omega arith) p) (on (at + 1) (omega arith) q)) (on (at + 2) (omega arith) v)) (on (at + 3) (omega arith) w);
      };
}

-- a run to the same place
pub run_at : {f : ℕ → ℕ} {s : List ℕ} {a b c : ℕ} → b ≡ c → Run f s a b → Run f s a c
run_at {f} {s} {a} e r = subst (λ (i : ℕ). Run f s a i) e r

-- four times four
pub sixteen_run : (f : ℕ → ℕ) (s : List ℕ) (at : ℕ) {p q v w : ℕ} → Count 4 p (Run f s at (at + 4)) → Count 4 q (Run f s (at + 4) (at + 4 + 4))
    → Count 4 v (Run f s (at + 8) (at + 8 + 4)) → Count 4 w (Run f s (at + 12) (at + 12 + 4)) → p + q + v + w ≡ 16 → Run f s at (at + 16)
sixteen_run f s at a b c d e =
    let (((k, l), m), n) = (count-on (count-on (count-on a b) c) d).all e in
    run_on k (run_on (run_at (omega arith) l) (run_on (run_at (omega arith) m) (run_at (omega arith) n)))

-- ---- characters

-- a byte from 14 on is text
pub text-on : (s : List ℕ) (at : ℕ) → at < length s → 14 ≤ get_or s at 0 → text_at s at ≡ text_at s (at + 1)
text-on s at h b = span-on is_text s at h (rw (ne_eqb (get_or s at 0) 10 (λ e. omega arith), ne_eqb (get_or s at 0) 13 (λ e. omega arith)))

-- a character of n bytes is passed
pub width_on : (s : List ℕ) (at n : ℕ) → 0 < n → char_width s at ≡ n → past_all char_width s at ≡ past_all char_width s (at + n)
width_on s at n p e = past_more char_width s at char_within (λ z. omega arith) ∙ ap (λ (w : ℕ). past_all char_width s (at + w)) e

ascii_width : (s : List ℕ) (at : ℕ) → at < length s → get_or s at 0 < 128 → char_width s at ≡ 1
unfolding char_width size_of
ascii_width s at h b = rw (lt-ltb at (length s) h, lt-ltb (get_or s at 0) 128 b)

-- an ASCII byte is a character
pub ascii_on : (s : List ℕ) (at : ℕ) → at < length s → get_or s at 0 < 128 → past_all char_width s at ≡ past_all char_width s (at + 1)
ascii_on s at h b = width_on s at 1 (omega arith) (ascii_width s at h b)

-- after such a first byte any later byte may follow
second : (b d : ℕ) → 225 ≤ b → b ≤ 239 → (b ≡ 237 → ⊥) → second_of b d ≡ is_next d
unfolding second_of lowest_of highest_of is_next
second b d l u n = rw (ne_eqb b 224 (λ e. omega arith), ne_eqb b 240 (λ e. omega arith), ne_eqb b 237 n, ne_eqb b 244 (λ e. omega arith))

-- so such three bytes are a character
pub three_width : (s : List ℕ) (at : ℕ) → at < length s → Three (get_or s at 0) (get_or s (at + 1) 0) (get_or s (at + 2) 0) → char_width s at ≡ 3
unfolding char_width size_of
three_width s at h t =
    let l = t.low in
    let u = t.high in
    rw (lt-ltb at (length s) h, le-ltb (get_or s at 0) 128 (omega arith), le-ltb (get_or s at 0) 194 (omega arith), le-ltb (get_or s at 0) 224 (omega arith), lt-ltb (get_or s at 0) 240 (omega arith), second (get_or s at 0) (get_or s (at + 1) 0) l u t.plain, t.second, t.third)

-- a character of three bytes is passed
pub three_run : (s : List ℕ) (at : ℕ) → char_width s at ≡ 3 → Run (past_all char_width s) s at (at + 3)
three_run s at e = record { from = omega arith; within = omega (arith, char_within s at); same = width_on s at 3 (omega arith) e }

-- n of i such characters are counted so far; one more, or none
pub threes_on : {f : ℕ → ℕ} {s : List ℕ} {at n i r : ℕ} → n ≤ i → (n ≡ i → Run f s at (at + 3 * i)) → r ≤ 1 → (r ≡ 1 → Run f s (at + 3 * i) (at + 3 * i + 3))
    → n + r ≡ i + 1 → Run f s at (at + 3 * (i + 1))
threes_on h p l q e = run_at (omega arith) (run_on (p (omega arith)) (q (omega arith)))

-- one character or none: n is the width that the code measured
pub char_run : (s : List ℕ) (at n : ℕ) → n ≡ char_width s at → Run (past_all char_width s) s at (at + n) × (at + n ≡ at → char_width s at ≡ 0)
char_run s at zero e = (record { from = omega arith; within = omega arith; same = ap (past_all char_width s) (sym (add-zero at)) }, λ q. sym e)
char_run s at (suc n) e =
    (record { from = omega arith; within = omega (arith, char_within s at); same = width_on s at (suc n) (omega arith) (sym e) }, λ q. absurd (omega arith))
