-- A clock with an hour has the mark that was asked for and its three bytes, one without has no mark and 0 for the hour: so `hour_mark` and `clock_bytes` say too.
-- Assumes nothing.
use native.Mathlib.Omega.{arith}
use mathlib.Core.Path.{refl}
use Rattle.block.proofs.entry_bytes.clock_figure.Goals as goal

pub returns-in-Hms : goal.returns-in-Hms
returns-in-Hms c = rw c.in-Hms.is (refl, omega arith, refl)

pub returns-in-Ms : goal.returns-in-Ms
returns-in-Ms c = rw c.in-Ms.is (refl, omega arith, refl)
