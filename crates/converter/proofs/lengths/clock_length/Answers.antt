-- Three or two figures, each with the character after it.
-- Assumes nothing.
use native.Mathlib.Omega.{arith}
use Rattle.converter.proofs.Lengthy.{hms_length, ms_length}
use Rattle.converter.proofs.lengths.clock_length.Goals as goal

pub returns-in-Hms : goal.returns-in-Hms
returns-in-Hms c = (
  λ fill after. hms_length fill after c.in-Hms.h c.in-Hms.m c.in-Hms.s c.in-Hms.is (c.figure_length.ensures.0 fill) (c.figure_length-in-Hms.ensures.0 48) (c.figure_length-in-Hms-2.ensures.0 48),
  omega (arith, c.figure_length.ensures.1, c.figure_length-in-Hms.ensures.1, c.figure_length-in-Hms-2.ensures.1),
)

pub returns-in-Ms : goal.returns-in-Ms
returns-in-Ms c = (
  λ fill after. ms_length fill after c.in-Ms.m c.in-Ms.s c.in-Ms.is (c.figure_length-in-Ms.ensures.0 fill) (c.figure_length-in-Ms-2.ensures.0 48),
  omega (arith, c.figure_length-in-Ms.ensures.1, c.figure_length-in-Ms-2.ensures.1),
)
