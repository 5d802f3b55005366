-- A time has 4 and the marks of its two clocks, which are at most 8 and 16; no time has 0.
-- Assumes nothing.
use native.Mathlib.Omega.{arith}
use mathlib.Core.Path.{refl}
use Rattle.block.proofs.entry_bytes.time_mark.Goals as goal

pub returns-in-Timed : goal.returns-in-Timed
returns-in-Timed c = rw (c.in-Timed.is, ← c.clock_figure.ensures.0, ← c.clock_figure-in-Timed.ensures.0) (refl, omega arith)
