-- Times that are lost to a figure too large.                                                        (02, request (iv))
-- Assumes nothing: these are definitions.
use Rattle.std.specs.Prelude.{ℕ, List, [], ◌∷◌, Bool, true, false, Option, Result}
use Rattle.lists.specs.Pick.{pick}
use Rattle.text.specs.Text.{on_place, on_number, by_number, tag_at, line_end_at, blanks_at, digits_at}
use Rattle.text.specs.declared.FigureError.{FigureError}
use Rattle.jkf.specs.declared.Time.{Time}
use Rattle.jkf.specs.declared.Time.TheVariants.{Untimed, Timed}
use Rattle.moves.specs.Moves.{on_clocked, on_what, what_at, figure_at, spaced_at, time_at}
use Rattle.moves.specs.declared.MoveLine.{MoveLine}
use Rattle.moves.specs.declared.TakenLine.{TakenLine}
use Rattle.text.specs.declared.Cursor.{Cursor}

-- ---- words

-- A figure over the largest allowed.
abbrev pub is_large : Result (ℕ × Cursor) FigureError → Bool
is_large n = by_number n (λ v c. false) false true

-- There is a time.
abbrev pub is_timed : Time → Bool
is_timed (Timed now total) = true
is_timed Untimed = false

-- A move line, and whether its time is lost.
abbrev pub taken_line : Option MoveLine → Bool → TakenLine
taken_line l b = record { line = l; lost = b }

-- ---- a clock

-- h:m:s comes to a figure over 255 at a place: a figure is come to where all before it could be read, and what stands behind it is not asked.
unfoldable pub hms_over : List ℕ → ℕ → Bool
hms_over s at =
    by_number (figure_at s at) (λ h c. by_number (figure_at s c.at) (λ m d. is_large (digits_at 255 s d.at)) false true) false true

-- m:s comes to a figure over 255.
unfoldable pub ms_over : List ℕ → ℕ → Bool
ms_over s at = by_number (figure_at s at) (λ m c. is_large (digits_at 255 s c.at)) false true

-- One of a clock's two forms comes to one.
unfoldable pub forms_over : List ℕ → ℕ → Bool
forms_over s at = pick (hms_over s at) true (ms_over s at)

-- ---- a time

-- Behind an opening bracket a form of now comes to a figure over 255, or, where now and the / behind it could be read, a form of the total.
unfoldable pub over_at : List ℕ → ℕ → Bool
over_at s at =
    on_place (tag_at (40 ∷ []) s at)
    (λ c. pick (forms_over s (blanks_at s c.at))
    true
    (on_clocked (spaced_at s c.at) (λ now d. on_place (tag_at (47 ∷ []) s d.at) (λ e. forms_over s (blanks_at s e.at)) false) false))
    false

-- No time is read at a place, and a figure over 255 was come to.
unfoldable pub lost_at : List ℕ → ℕ → Bool
lost_at s at = pick (is_timed (time_at s at).time) false (over_at s at)

-- ---- a move line

-- A move line from its special or move on: it is whole, and past the blanks a time is lost.
abbrev pub played_lost : List ℕ → ℕ → Bool
played_lost s at =
    on_what (what_at s at)
    (λ e d. on_place (line_end_at s (time_at s (blanks_at s d.at)).next.at) (λ f. lost_at s (blanks_at s d.at)) false)
    false

-- A move line that lost its time; what is no move line lost none.
unfoldable pub line_lost : List ℕ → ℕ → Bool
line_lost s at = on_number (digits_at 18446744073709551615 s (blanks_at s at)) (λ n c. played_lost s (blanks_at s c.at)) false
