-- The target is asked first, and the width where there is a time.
-- Assumes nothing.
use mathlib.Core.Path.{sym}
use Rattle.converter.specs.Entries.{move_width, can_write}
use Rattle.converter.proofs.checks.move_fits.Goals as goal

pub returns-then-not-target_fits : goal.returns-then-not-target_fits
unfolding can_write
returns-then-not-target_fits c = sym (rw (← c.target_fits.ensures, c.if-not-target_fits.true))

pub returns-in-Untimed : goal.returns-in-Untimed
unfolding can_write
returns-in-Untimed c = sym (rw (← c.target_fits.ensures, c.if-not-target_fits.false, c.in-Untimed.is))

pub returns-in-Timed : goal.returns-in-Timed
unfolding can_write move_width
returns-in-Timed c = rw (← c.target_fits.ensures, c.if-not-target_fits.false, c.in-Timed.is, ← c.move_width.ensures.0)
