-- The answers of the steps, handed on as the definition hands them on.
-- Assumes nothing.
use mathlib.Core.Path.{ap}
use Rattle.moves.proofs.any_line.Goals as goal

pub returns-in_default : goal.returns-in_default
returns-in_default c = rw (← c.what.ensures, c.in_default.is, ← c.no_line.ensures)

pub returns-in_default-line_end : goal.returns-in_default-line_end
returns-in_default-line_end c = rw (← c.what.ensures, c.in-Some.is, ← c.blanks-start.ensures, ← c.time-timing.ensures, ← c.line_end.ensures, c.in_default-line_end.is, ← c.no_line-in_default-line_end.ensures)

pub is_lost-requires : goal.is_lost-requires
is_lost-requires c = ap (λ k. k.time) c.time-timing.ensures

pub returns : goal.returns
returns c = rw (← c.what.ensures, c.in-Some.is, ← c.blanks-start.ensures, ← c.is_lost.ensures, ← c.time-timing.ensures, ← c.line_end.ensures, c.in-Some-line_end.is, ← c.color.ensures, ← c.finish.ensures)
