-- The figures of h:m:s one after the other (`forms-is`).
-- Assumes nothing.
use mathlib.Core.Path.{sym, ap, ◌∙◌}
use Rattle.moves.specs.Lost.{is_large, hms_over}
use Rattle.moves.proofs.Losing.{forms_is, over_else}
use Rattle.moves.proofs.lost.clock_over.Goals as goal

pub returns-in_default : goal.returns-in_default
unfolding hms_over
returns-in_default c = rw (forms_is, ← c.figure-first.ensures, c.is_large.ensures) (sym (over_else _ c.in_default.is))

pub returns-in_default-second : goal.returns-in_default-second
unfolding hms_over
returns-in_default-second c = rw (forms_is, ← c.figure-first.ensures, c.in-Ok.is, ← c.figure-second.ensures, c.is_large-in_default-second.ensures) (sym (over_else _ c.in_default-second.is))

pub returns : goal.returns
unfolding hms_over
returns c = rw (forms_is, ← c.figure-first.ensures, c.in-Ok.is, ← c.figure-second.ensures, c.in-Ok-second.is) (c.is_large-2.ensures ∙ ap is_large c.digits.ensures)
