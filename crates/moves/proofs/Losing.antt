-- A figure too large, come to by a form of a clock.
--     forms-is      h:m:s comes to every figure that m:s comes to
--     over-else     no figure is too large or none
--     usual-lost    a time in the usual form is not lost
-- Assumes nothing.
use Rattle.std.specs.Prelude.{Result, Ok, Err}
use Prim.Native.Nat.{ℕ, ◌+◌}
use mathlib.Core.Path.{◌≡◌, refl, ap, sym, subst}
use mathlib.Core.List.{List}
use mathlib.Core.Bool.{Bool, true, false}
use Rattle.lists.specs.Pick.{pick}
use Rattle.text.specs.Text.{on_place, by_number, tag_at, line_end_at, blanks_at, digits_at}
use Rattle.text.specs.declared.Cursor.{Cursor}
use Rattle.text.specs.declared.FigureError.{FigureError}
use Rattle.text.specs.declared.FigureError.TheVariants.{Absent, TooLarge}
use Rattle.text.proofs.Answers.{by_place}
use Rattle.moves.specs.Moves.{colon, figure_at, time_at}
use Rattle.moves.specs.Lost.{is_large, hms_over, ms_over, forms_over, lost_at, played_lost}
use Rattle.moves.specs.inner.Usuals.{Usual, UsualMove}
use Rattle.moves.proofs.Clocking.{usual_time}
use Rattle.moves.proofs.Usually.{usual_what}

itself : (b : Bool) → pick b true false ≡ b
itself true = refl
itself false = refl

pub forms_is : (s : List ℕ) (at : ℕ) → forms_over s at ≡ hms_over s at
unfolding forms_over hms_over ms_over figure_at
forms_is s at = go (figure_at s at)
  where
    second : (r : Result (ℕ × Cursor) FigureError)
        → pick (by_number (by_number r (λ n d. on_place (tag_at colon s d.at) (λ e. Ok (n, e)) (Err Absent)) (Err Absent) (Err TooLarge)) (λ m d. is_large (digits_at 255 s d.at)) false true) true (is_large r)
        ≡ by_number (by_number r (λ n d. on_place (tag_at colon s d.at) (λ e. Ok (n, e)) (Err Absent)) (Err Absent) (Err TooLarge)) (λ m d. is_large (digits_at 255 s d.at)) false true
    second (Ok (n, d)) = itself _
    second (Err Absent) = refl
    second (Err TooLarge) = refl

    go : (r : Result (ℕ × Cursor) FigureError)
        → pick (by_number r (λ h c. by_number (figure_at s c.at) (λ m d. is_large (digits_at 255 s d.at)) false true) false true) true (by_number r (λ m c. is_large (digits_at 255 s c.at)) false true)
        ≡ by_number r (λ h c. by_number (figure_at s c.at) (λ m d. is_large (digits_at 255 s d.at)) false true) false true
    go (Ok (h, c)) = second (digits_at 255 s c.at)
    go (Err Absent) = refl
    go (Err TooLarge) = refl

pub over_else : {r : Result (ℕ × Cursor) FigureError} {e : FigureError} (f : ℕ → Cursor → Bool) → r ≡ Err e → by_number r f false true ≡ is_large r
over_else {e = Absent} f h = subst (λ x. by_number x f false true ≡ is_large x) (sym h) refl
over_else {e = TooLarge} f h = subst (λ x. by_number x f false true ≡ is_large x) (sym h) refl

module _ (s : List ℕ) (at width t : ℕ) (u : UsualMove s at width) (v : Usual s t) (e : t ≡ blanks_at s (at + width)) where
  none_lost : lost_at s t ≡ false
  unfolding lost_at
  none_lost = rw (ap (λ k. k.time) (usual_time s t (t + 7) (t + 7 + 3) (t + 7 + 6) v refl refl refl))

  pub usual_lost : played_lost s at ≡ false
  usual_lost = rw (usual_what s at width u, ← e) (by_place (λ (b : Bool). b ≡ false) refl (line_end_at s (time_at s t).next.at) (λ f. none_lost))
