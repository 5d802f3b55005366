-- The turns of the loop of `digits`, over plain numbers.
-- Assumes nothing.
use Rattle.std.specs.Prelude.{Ok, Err}
use Prim.Native.Nat.{ℕ, ◌+◌, ◌*◌, ◌-◌, ◌≤◌, ◌<◌}
use native.Mathlib.Omega.{arith}
use mathlib.Core.Path.{◌≡◌, refl, sym, ap, subst, ◌∙◌}
use mathlib.Core.List.{List}
use mathlib.Core.Bool.{true, false}
use lib.ListN.{length, get_or}
use borrow.Author.Tests.{eq-eqb, ne_eqb, le-leb, lt-leb}
use Rattle.text.specs.Text.{cursor, is_digit, span_at, number_at, digits_at}
use Rattle.text.specs.inner.Runs.{Reading}
use Rattle.text.specs.declared.FigureError.TheVariants.{Absent, TooLarge}
use Rattle.lists.proofs.Laws.{class_in}
use Rattle.text.proofs.Laws.{digit_bounds, span_ge, span_go, span-stop, number-on, number-stop, number_ge}

pub reading-start : (largest : ℕ) (s : List ℕ) (at : ℕ) → Reading largest s at at 0
reading-start largest s at = record { span = refl; made = refl; from = omega arith; small = omega arith }

-- b is the byte at `at`, as the code read it
module _ {largest : ℕ} {s : List ℕ} {start at n b : ℕ} (r : Reading largest s start at n) (e : b ≡ get_or s at 0) where
  pub reading-more : is_digit b ≡ true → n * 10 + (b - 48) ≤ largest → Reading largest s start (at + 1) (n * 10 + (b - 48))
  reading-more t h =
      let u : is_digit (get_or s at 0) ≡ true = rw e at t in
      record {
        span = r.span ∙ span_go is_digit s at refl u;
        made = r.made ∙ number-on s at n u ∙ ap (λ (x : ℕ). number_at s (at + 1) (n * 10 + (x - 48))) (sym e);
        from = omega arith;
        small = h;
      }

  pub reading_large : is_digit b ≡ true → largest < n * 10 + (b - 48) → digits_at largest s start ≡ Err TooLarge
  unfolding digits_at
  reading_large t h =
      let u : is_digit (get_or s at 0) ≡ true = rw e at t in
      let p = r.span ∙ span_go is_digit s at refl u in
      let m = r.made ∙ number-on s at n u in
      simp (ne_eqb (span_at is_digit s start) start (λ q. omega (arith, span_ge is_digit s (at + 1))), lt-leb (number_at s start 0) largest (omega (arith, number_ge s (at + 1) (n * 10 + (get_or s at 0 - 48)))))

  pub reading_done : is_digit b ≡ false → (at ≡ start → ⊥) → digits_at largest s start ≡ Ok (n, cursor at)
  unfolding digits_at
  reading_done t h =
      let u : is_digit (get_or s at 0) ≡ false = rw e at t in
      simp (r.span, span-stop is_digit s at refl u, r.made, number-stop s at n u, ne_eqb _ _ h, le-leb _ _ r.small)

  pub reading-none : is_digit b ≡ false → at ≡ start → digits_at largest s start ≡ Err Absent
  unfolding digits_at
  reading-none t h =
      let u : is_digit (get_or s at 0) ≡ false = rw e at t in
      simp (r.span, span-stop is_digit s at refl u, eq-eqb _ _ h)

-- ---- one and two digits

-- a and b are the bytes at a place and after it, as the code read them
module _ (largest : ℕ) (s : List ℕ) (at a b : ℕ) (large : 99 ≤ largest) (p : a ≡ get_or s at 0) (t : is_digit a ≡ true) (q : b ≡ get_or s (at + 1) 0) where
  one : Reading largest s at (at + 1) (a - 48)
  one =
      let h = digit_bounds a t in
      let e : 0 * 10 + (a - 48) ≡ a - 48 = omega arith in
      subst (λ (n : ℕ). Reading largest s at (at + 1) n) e (reading-more (reading-start largest s at) p t (omega arith))

  pub one-digit : is_digit b ≡ false → digits_at largest s at ≡ Ok (a - 48, cursor (at + 1))
  one-digit u = reading_done one q u (λ z. omega arith)

  pub two : is_digit b ≡ true → Reading largest s at (at + 2) ((a - 48) * 10 + (b - 48))
  two u =
      let h = digit_bounds a t in
      let k = digit_bounds b u in
      let e : at + 1 + 1 ≡ at + 2 = omega arith in
      subst (λ (n : ℕ). Reading largest s at n ((a - 48) * 10 + (b - 48))) e (reading-more one q u (omega arith))

  pub two-digits : is_digit b ≡ true → (c : ℕ) → c ≡ get_or s (at + 2) 0 → is_digit c ≡ false → digits_at largest s at ≡ Ok ((a - 48) * 10 + (b - 48), cursor (at + 2))
  two-digits u c r v = reading_done (two u) r v (λ z. omega arith)

-- no digit stands here
pub no-digit : (largest : ℕ) (s : List ℕ) (at a : ℕ) → a ≡ get_or s at 0 → is_digit a ≡ false → digits_at largest s at ≡ Err Absent
no-digit largest s at a p t = reading-none (reading-start largest s at) p t refl

-- a digit stands in the text
pub digit_in : (s : List ℕ) (at a : ℕ) → a ≡ get_or s at 0 → is_digit a ≡ true → at < length s
digit_in s at a p t = class_in is_digit s at refl (ap is_digit (sym p) ∙ t)
