-- A time reads back: of a clock without an hour the form that is tried first fails.
-- Assumes nothing.
use Rattle.std.specs.Prelude.{Some, Ok, Err}
use Prim.Native.Nat.{ℕ, ◌-◌, ◌≤◌}
use mathlib.Core.Path.{◌≡◌, refl}
use mathlib.Core.List.{List, [], ◌∷◌, ◌++◌, append_assoc}
use mathlib.Core.Bool.{false}
use lib.ListN.{get_or}
use lib.Dec.{eqb}
use Rattle.lists.proofs.Stand.{Stands, Came, Reads, Off, then, came}
use Rattle.lent.specs.Numbers.{decimal, padded}
use Rattle.text.specs.Text.{cursor, is_blank, is_digit, blanks_at}
use Rattle.text.specs.declared.FigureError.TheVariants.{Absent}
use Rattle.spell.proofs.Counts.{tag_reads}
use Rattle.jkf.specs.declared.Clock.{Clock}
use Rattle.jkf.specs.declared.Clock.TheVariants.{Hms, Ms}
use Rattle.jkf.specs.declared.Time.{Time}
use Rattle.jkf.specs.declared.Time.TheVariants.{Untimed, Timed}
use Rattle.moves.specs.Moves.{figure_at, hms_at, ms_at, clock_at, spaced_at, clocks_at, timing, time_at}
use Rattle.moves.specs.Fits.{ClockFits, hms_fits, ms_fits, TimeFits, untimed_fits, timed_fits}
use Rattle.converter.specs.Entries.{clock_text, time_text}
use Rattle.laws.proofs.Back.Leaves.{byte_fails, blanks_none, blanks_read, Digits, digits-read, decimal-digits, zeros_digits, digits_off, padded_blanks}

-- digits and a colon; digits and no colon
figure_came : (t : List ℕ) (n : ℕ) → Digits t n → n ≤ 255 → {s : List ℕ} {at : ℕ} (r : List ℕ) → Stands s at (t ++ (58 ∷ r)) → Came (figure_at s at) (λ e. Ok (n, cursor e)) s r
unfolding figure_at
figure_came t n d v r st =
    then (digits-read 255 t n d v) st refl λ e₁ i₁ l₁.
    then (tag_reads (58 ∷ [])) l₁ tt λ e₂ i₂ l₂.
    record { end = e₂; is = rw (i₁, i₂); left = l₂ }

figure_fails : (t : List ℕ) (n : ℕ) → Digits t n → n ≤ 255 → {s : List ℕ} {at : ℕ} (r : List ℕ) → Stands s at (t ++ r) → Off is_digit r → eqb (get_or r 0 0) 58 ≡ false
    → figure_at s at ≡ Err Absent
unfolding figure_at
figure_fails t n d v r st o h =
    then (digits-read 255 t n d v) st o λ e₁ i₁ l₁.
    rw (i₁, byte_fails 58 [] l₁ h)

-- what the first figure is filled up by
pub data Filler : ℕ → Type 0 where
  spaces : Filler 32
  noughts : Filler 48

first_figure : {fill : ℕ} → Filler fill → (n : ℕ) {s : List ℕ} {at : ℕ} (r : List ℕ) → Stands s at (padded 2 fill n ++ r) → {B : Type 0}
    → ((e : ℕ) (t : List ℕ) → blanks_at s at ≡ e → Digits t n → Stands s e (t ++ r) → B) → B
first_figure spaces n r st k = came (padded_blanks 2 n r st) λ e i l. k e (decimal n) i (decimal-digits n) l
first_figure noughts n {s} {at} r st k = k at (padded 2 48 n) (blanks_none st (digits_off is_blank refl (padded 2 48 n) r (zeros_digits 2 n))) (zeros_digits 2 n) st

-- what follows a clock
pub record Closes (b : ℕ) : Type 0 where
  pub digit : is_digit b ≡ false
  pub colon : eqb b 58 ≡ false
  pub blank : is_blank b ≡ false

pub clock_came : {fill : ℕ} → Filler fill → {after : ℕ} → Closes after → (c : Clock) → ClockFits c → {s : List ℕ} {at : ℕ} (r : List ℕ)
    → Stands s at (clock_text fill after c ++ r) → Came (spaced_at s at) (λ e. Some (c, cursor e)) s (after ∷ r)
unfolding spaced_at clock_at hms_at ms_at clock_text
clock_came f a (Hms h m x) (hms_fits u v w) r st =
    first_figure f h _ (simp append_assoc at st) λ e₀ t i₀ d l₀.
    came (figure_came t h d u _ l₀) λ e₁ i₁ l₁.
    came (figure_came (padded 2 48 m) m (zeros_digits 2 m) v _ l₁) λ e₂ i₂ l₂.
    then (digits-read 255 (padded 2 48 x) x (zeros_digits 2 x) w) l₂ a.digit λ e₃ i₃ l₃.
    record { end = e₃; is = rw (i₀, i₁, i₂, i₃, blanks_none l₃ a.blank); left = l₃ }
clock_came f {after} a (Ms m x) (ms_fits u v) r st =
    first_figure f m _ (simp append_assoc at st) λ e₀ t i₀ d l₀.
    came (figure_came t m d u _ l₀) λ e₁ i₁ l₁.
    then (digits-read 255 (padded 2 48 x) x (zeros_digits 2 x) v) l₁ a.digit λ e₂ i₂ l₂.
    let z = figure_fails (padded 2 48 x) x (zeros_digits 2 x) v (after ∷ r) l₁ a.digit a.colon in
    record { end = e₂; is = rw (i₀, i₁, z, i₂, blanks_none l₂ a.blank); left = l₂ }

slash : Closes 47
slash = record { digit = refl; colon = refl; blank = refl }

bracket : Closes 41
bracket = record { digit = refl; colon = refl; blank = refl }

-- a time with blanks before it, or none, before a break
pub time-reads : (w : ℕ) (t : Time) → TimeFits t → Reads (λ s at. time_at s (blanks_at s at)) (λ e. timing t (cursor e)) (time_text w t) (λ r. get_or r 0 0 ≡ 10)
unfolding time_at clocks_at time_text
time-reads w Untimed untimed_fits = record {
  run = λ s at r st c.
      let o : Off is_blank r = rw c in
      let z : eqb (get_or r 0 0) 40 ≡ false = rw c in
      record { end = at; is = rw (blanks_none st o, byte_fails 40 [] st z); left = st };
}
time-reads w (Timed now total) (timed_fits f g) = record {
  run = λ s at r st c.
      let st' = simp append_assoc at st in
      then (blanks_read (13 - w)) st' refl λ e₀ i₀ l₀.
      then (tag_reads (40 ∷ [])) l₀ tt λ e₁ i₁ l₁.
      came (clock_came spaces slash now f _ l₁) λ e₂ i₂ l₂.
      then (tag_reads (47 ∷ [])) l₂ tt λ e₃ i₃ l₃.
      came (clock_came noughts bracket total g _ l₃) λ e₄ i₄ l₄.
      then (tag_reads (41 ∷ [])) l₄ tt λ e₅ i₅ l₅.
      record { end = e₅; is = rw (i₀, i₁, i₂, i₃, i₄, i₅); left = l₅ };
}
