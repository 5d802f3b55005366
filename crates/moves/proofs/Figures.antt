-- Numbers that were read are at most the largest allowed and go on from their place, also before a colon.
-- Assumes nothing.
use Rattle.std.specs.Prelude.{Result, Ok, Err}
use Prim.Native.Nat.{ℕ}
use native.Mathlib.Omega.{arith}
use mathlib.Core.Path.{◌≡◌, ap, sym, subst}
use mathlib.Core.List.{List}
use Rattle.text.specs.Text.{tag_at, by_number}
use Rattle.text.specs.declared.Cursor.{Cursor}
use Rattle.text.specs.declared.FigureError.{FigureError}
use Rattle.text.specs.declared.FigureError.TheVariants.{Absent, TooLarge}
use Rattle.text.proofs.Answers.{OnNumber, value, no_digit, too_large, by_three, by_past, Counted, digits_fit}
use Rattle.text.proofs.Laws.{tag_after}
use Rattle.moves.specs.Moves.{colon, figure_at}

value_of : {P : ℕ → Cursor → Type 0} {n : ℕ} {c : Cursor} → OnNumber P (Ok (n, c)) → P n c
value_of (value h) = h

pub value_is : {P : ℕ → Cursor → Type 0} {r : Result (ℕ × Cursor) FigureError} {n : ℕ} {c : Cursor} → OnNumber P r → r ≡ Ok (n, c) → P n c
value_is {P} h e = value_of (subst (OnNumber P) e h)

pub figure_fits : (s : List ℕ) (at : ℕ) → OnNumber (Counted 255 at) (figure_at s at)
unfolding figure_at
figure_fits s at =
    by_three (OnNumber (Counted 255 at)) no_digit too_large (digits_fit 255 s at)
    (λ n c h. by_past (OnNumber (Counted 255 at)) no_digit (tag_at colon s c.at)
    (λ e q. let p = h.past in let a = (tag_after colon s c.at e (omega arith) q).past in value (record { small = h.small; past = omega arith })))

-- why there is no number is handed on
pub error_kept : {r : Result (ℕ × Cursor) FigureError} {e : FigureError} (f : ℕ → Cursor → Result (ℕ × Cursor) FigureError) → r ≡ Err e
    → Err e ≡ by_number r f (Err Absent) (Err TooLarge)
error_kept {e = Absent} f h = ap (λ r. by_number r f (Err Absent) (Err TooLarge)) (sym h)
error_kept {e = TooLarge} f h = ap (λ r. by_number r f (Err Absent) (Err TooLarge)) (sym h)
