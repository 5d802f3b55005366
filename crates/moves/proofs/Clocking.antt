-- A time in the usual form is read by the rules as its figures say.
--     tag-here, tag-other       a byte stands at a place, or another does
--     two_at, figure-at         two digits there, and a colon after them
--     now-clock, total-clock    what was taken, and the total
--     usual-time                the whole
-- Assumes nothing.
use Rattle.std.specs.Prelude.{Some, None, Ok}
use Prim.Native.Nat.{ℕ, ◌+◌, ◌-◌, ◌≤◌, ◌<◌}
use native.Mathlib.Omega.{arith}
use mathlib.Core.Path.{◌≡◌, refl, sym, ap, ◌∙◌}
use mathlib.Core.List.{List, [], ◌∷◌}
use mathlib.Core.Bool.{true, false}
use lib.ListN.{length, get_or}
use borrow.Author.Tests.{ne_eqb}
use Rattle.text.specs.Text.{cursor, is_blank, is_digit, blanks_at, stands_at, tag_at, digits_at}
use Rattle.text.proofs.Laws.{span-stop, span_go, stands_on, stands_done, stands_off, digit_bounds}
use Rattle.text.proofs.Readings.{one-digit, two-digits, digit_in}
use Rattle.jkf.specs.declared.Clock.TheVariants.{Hms, Ms}
use Rattle.jkf.specs.declared.Time.TheVariants.{Timed}
use Rattle.moves.specs.Moves.{timing, figure_at, hms_at, ms_at, clock_at, spaced_at, clocks_at, time_at}
use Rattle.moves.specs.inner.Usuals.{Two, two_digits, UsualNow, UsualTotal, Usual}

module _ (s : List ℕ) where
  -- a byte stands here, and e is the place past it
  pub tag_here : (b at e : ℕ) → at < length s → get_or s at 0 ≡ b → e ≡ at + 1 → tag_at (b ∷ []) s at ≡ Some (cursor e)
  unfolding tag_at
  tag_here b at e h g z =
      let on : stands_at (b ∷ []) s at ≡ true = stands_on (b ∷ []) s 0 at (omega arith) h g ∙ stands_done (b ∷ []) s 1 (at + 1) (omega arith) in
      rw (on, z)

  -- another stands here
  pub tag_other : (b : ℕ) (t : List ℕ) (at : ℕ) → at < length s → (get_or s at 0 ≡ b → ⊥) → tag_at (b ∷ t) s at ≡ None
  unfolding tag_at
  tag_other b t at h g = rw (stands_off (b ∷ t) s 0 at (omega arith) h g)

  -- a byte that is no blank
  here : (at b : ℕ) → get_or s at 0 ≡ b → is_blank b ≡ false → blanks_at s at ≡ at
  here at b g n = span-stop is_blank s at refl (ap is_blank g ∙ n)

  digit_here : (at : ℕ) → is_digit (get_or s at 0) ≡ true → blanks_at s at ≡ at
  digit_here at d =
      let h = digit_bounds (get_or s at 0) d in
      here at (get_or s at 0) refl (rw (ne_eqb (get_or s at 0) 32 (λ e. omega arith), ne_eqb (get_or s at 0) 9 (λ e. omega arith)))

  -- two digits and another byte after them
  pub two_at : (at e b : ℕ) → Two s at → e ≡ at + 2 → get_or s e 0 ≡ b → is_digit b ≡ false → digits_at 255 s at ≡ Ok (two_digits s at, cursor e)
  two_at at e b t z g n =
      let r = two-digits 255 s at (get_or s at 0) (get_or s (at + 1) 0) (omega arith) refl t.tens refl t.ones (get_or s (at + 2) 0) refl (ap (λ (p : ℕ). is_digit (get_or s p 0)) (sym z) ∙ ap is_digit g ∙ n) in
      r ∙ ap (λ (p : ℕ). Ok (two_digits s at, cursor p)) (sym z)

  -- with the colon
  figure-at : (at e f : ℕ) → Two s at → e ≡ at + 2 → f ≡ at + 3 → e < length s → get_or s e 0 ≡ 58 → figure_at s at ≡ Ok (two_digits s at, cursor f)
  unfolding figure_at
  figure-at at e f t z y h g = rw (two_at at e 58 t z g refl, tag_here 58 e f h g (omega arith))

  -- what was taken: minutes of one digit after a blank, so that h:m:s finds no third figure
  module _ (at : ℕ) (r : at + 7 ≤ length s) (u : UsualNow s at) where
    minute_is : figure_at s (at + 2) ≡ Ok (get_or s (at + 2) 0 - 48, cursor (at + 4))
    unfolding figure_at
    minute_is =
        let e : at + 2 + 1 ≡ at + 3 = omega arith in
        let g : get_or s (at + 2 + 1) 0 ≡ 58 = ap (λ (p : ℕ). get_or s p 0) e ∙ u.colon in
        let d = one-digit 255 s (at + 2) (get_or s (at + 2) 0) (get_or s (at + 2 + 1) 0) (omega arith) refl u.minute refl (ap is_digit g) in
        rw (d, tag_here 58 (at + 2 + 1) (at + 4) (omega arith) g (omega arith))

    second_is : digits_at 255 s (at + 4) ≡ Ok (two_digits s (at + 4), cursor (at + 6))
    second_is = two_at (at + 4) (at + 6) 47 u.second (omega arith) u.slash refl

    no_hour : hms_at s (at + 2) ≡ None
    unfolding hms_at figure_at
    no_hour = rw (minute_is, second_is, tag_other 58 [] (at + 6) (omega arith) (λ e. omega (arith, u.slash)))

    now_clock : spaced_at s (at + 1) ≡ Some (Ms (get_or s (at + 2) 0 - 48) (two_digits s (at + 4)), cursor (at + 6))
    unfolding spaced_at clock_at ms_at
    now_clock =
        let e : at + 1 + 1 ≡ at + 2 = omega arith in
        let b : blanks_at s (at + 1) ≡ at + 2 = span_go is_blank s (at + 1) refl (ap is_blank u.blank) ∙ ap (blanks_at s) e ∙ digit_here (at + 2) u.minute in
        rw (b, no_hour, minute_is, second_is, here (at + 6) 47 u.slash refl)

  -- the total
  module _ (at : ℕ) (r : at + 9 ≤ length s) (u : UsualTotal s at) where
    total_clock : spaced_at s at ≡ Some (Hms (two_digits s at) (two_digits s (at + 3)) (two_digits s (at + 6)), cursor (at + 8))
    unfolding spaced_at clock_at hms_at
    total_clock =
        rw (digit_here at u.hour.tens, figure-at at (at + 2) (at + 3) u.hour refl refl (omega arith) u.colon, figure-at (at + 3) (at + 5) (at + 6) u.minute (omega arith) (omega arith) (omega arith) u.colon₂, two_at (at + 6) (at + 8) 41 u.second (omega arith) u.closes refl, here (at + 8) 41 u.closes refl)

-- the whole
pub usual_time : (s : List ℕ) (at : ℕ) (p₁ p₂ p₃ : ℕ) → Usual s at → p₁ ≡ at + 7 → p₂ ≡ at + 7 + 3 → p₃ ≡ at + 7 + 6
    → time_at s at ≡ timing (Timed (Ms (get_or s (at + 2) 0 - 48) (two_digits s (at + 4))) (Hms (two_digits s p₁) (two_digits s p₂) (two_digits s p₃))) (cursor (at + 16))
unfolding time_at clocks_at
usual_time s at p₁ p₂ p₃ u e₁ e₂ e₃ =
    let r = u.room in
    rw (e₁, e₂, e₃, tag_here s 40 at (at + 1) (omega arith) u.now.opens refl, now_clock s at (omega arith) u.now, tag_here s 47 (at + 6) (at + 7) (omega arith) u.now.slash (omega arith), total_clock s (at + 7) (omega arith) u.total, tag_here s 41 (at + 7 + 8) (at + 16) (omega arith) u.total.closes (omega arith))

-- two digits stand within the text, and are bytes of digits
pub two_known : (s : List ℕ) (at : ℕ) → Two s at → (at + 1 < length s) × (48 ≤ get_or s at 0) × (get_or s at 0 < 58) × (48 ≤ get_or s (at + 1) 0) × (get_or s (at + 1) 0 < 58)
two_known s at t =
    let a = digit_bounds (get_or s at 0) t.tens in
    let b = digit_bounds (get_or s (at + 1) 0) t.ones in
    (digit_in s (at + 1) (get_or s (at + 1) 0) refl t.ones, a.0, a.1, b.0, b.1)
