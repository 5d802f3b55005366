-- The answers of the steps, handed on as the line's end goes without its time (`line-end-is`), past a move in the usual form by its width (`usual-what`).
-- Assumes nothing.
use Rattle.std.specs.Prelude.{Result, Some, None, Ok, Err}
use Rattle.std.specs.Result.{result_ok}
use Prim.Native.Nat.{ℕ}
use native.Mathlib.Omega.{arith}
use mathlib.Core.Path.{◌≡◌, sym, refl, ◌∙◌}
use Rattle.text.specs.Text.{on_number}
use Rattle.text.specs.declared.Cursor.{Cursor}
use Rattle.text.specs.declared.FigureError.{FigureError}
use Rattle.text.specs.declared.FigureError.TheVariants.{Absent, TooLarge}
use Rattle.moves.proofs.Shortcuts.{line-end_is}
use Rattle.moves.proofs.Usually.{usual_what}
use Rattle.moves.proofs.move_line_end.Goals as goal

number_none : {A : Type 0} (r : Result (ℕ × Cursor) FigureError) (f : ℕ → Cursor → A) (d : A) → result_ok r ≡ None → on_number r f d ≡ d
number_none (Ok x) f d h = cc
number_none (Err Absent) f d h = refl
number_none (Err TooLarge) f d h = refl

number_some : {r : Result (ℕ × Cursor) FigureError} {x : ℕ × Cursor} → result_ok r ≡ Some x → r ≡ Ok x
number_some {r = Ok y} h = cc
number_some {r = Err e} h = cc

pub returns-in_err-numbered : goal.returns-in_err-numbered
returns-in_err-numbered c = rw (c.from_residual.ensures, line-end_is, ← c.blanks.ensures, ← c.digits.ensures) (sym (number_none _ _ _ (sym c.ok.ensures.value ∙ c.in_err-numbered.was)))

pub returns-then-width-gt0 : goal.returns-then-width-gt0
returns-then-width-gt0 c = rw (line-end_is, ← c.blanks.ensures, ← c.digits.ensures, number_some (sym c.ok.ensures.value ∙ c.in_ok-numbered.was), ← c.blanks-from.ensures, usual_what _ _ _ (c.usual_width-width.ensures c.if-width-gt0.true), ← c.line_end.ensures)

pub overflow_add-at : goal.overflow_add-at
overflow_add-at c = omega (arith, (c.usual_width-width.ensures c.if-width-gt0.true).room)

pub returns-in_err-played : goal.returns-in_err-played
returns-in_err-played c = rw (c.from_residual-in_err-played.ensures, line-end_is, ← c.blanks.ensures, ← c.digits.ensures, number_some (sym c.ok.ensures.value ∙ c.in_ok-numbered.was), ← c.blanks-from.ensures, ← c.what.ensures, c.in_err-played.was)

pub returns : goal.returns
returns c = rw (line-end_is, ← c.blanks.ensures, ← c.digits.ensures, number_some (sym c.ok.ensures.value ∙ c.in_ok-numbered.was), ← c.blanks-from.ensures, ← c.what.ensures, c.in_ok-played.was, ← c.line_end-2.ensures)
