-- No time is nothing; a time is its padding, none where the width is 13 or more, a bracket and its two clocks.
-- Assumes nothing.
use native.Mathlib.Omega.{arith}
use Rattle.converter.proofs.Lengthy.{untimed_length, timed_length}
use Rattle.converter.proofs.lengths.time_length.Goals as goal

pub returns-in-Untimed : goal.returns-in-Untimed
returns-in-Untimed c = (untimed_length c.args.width c.in-Untimed.is, omega arith)

pub returns-in-Timed : goal.returns-in-Timed
returns-in-Timed c =
    let e = timed_length c.args.width c.in-Timed.is in
    let now = c.clock_length.ensures.0 32 47 in
    let total = c.clock_length-in-Timed.ensures.0 48 41 in
    (omega arith, omega arith)
