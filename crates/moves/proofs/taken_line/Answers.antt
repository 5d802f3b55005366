-- The answers of the steps, handed on: a move and a time in the usual form go the short way, and all others the general one.
-- Assumes nothing.
use native.Mathlib.Omega.{arith}
use mathlib.Core.Path.{sym, ap₂}
use Rattle.text.proofs.Answers.{number_else}
use Rattle.moves.specs.Moves.{move_line_at}
use Rattle.moves.specs.Lost.{taken_line, line_lost}
use Rattle.moves.proofs.taken_line.Goals as goal

pub returns-in_default : goal.returns-in_default
unfolding move_line_at line_lost
returns-in_default c = rw (← c.blanks.ensures, ← c.digits.ensures, c.no_line.ensures) (sym (ap₂ taken_line (number_else _ _ c.in_default.is) (number_else _ _ c.in_default.is)))

pub overflow_add-at : goal.overflow_add-at
overflow_add-at c = omega (arith, (c.usual_width-width.ensures c.if-width-gt0.true).room)

pub usual_line-requires : goal.usual_line-requires
usual_line-requires c = (c.usual_width-width.ensures c.if-width-gt0.true, c.is_usual.ensures c.if-is_usual.true, c.blanks-t.ensures)

pub returns-then-is_usual : goal.returns-then-is_usual
unfolding move_line_at line_lost
returns-then-is_usual c = rw (← c.blanks.ensures, ← c.digits.ensures, c.in-Ok.is, ← c.blanks-from.ensures, ← c.usual_line.ensures)

pub returns : goal.returns
unfolding move_line_at line_lost
returns c = rw (← c.blanks.ensures, ← c.digits.ensures, c.in-Ok.is, ← c.blanks-from.ensures, ← c.any_line.ensures)
