-- Now without its hour, the total with one.
-- Assumes nothing.
use Rattle.converter.specs.Said.{said_time}
use Rattle.converter.proofs.Saying.{plain-clocks}
use Rattle.converter.proofs.said.plain_time.Goals as goal

pub returns-in-Untimed : goal.returns-in-Untimed
unfolding said_time
returns-in-Untimed c = rw c.in-Untimed.is

pub returns-in-Timed : goal.returns-in-Timed
returns-in-Timed c =
    rw c.in-Timed.is
    (plain-clocks _ _ c.minute.ensures c.second.ensures c.hour.ensures c.minute-in-Timed.ensures c.second-in-Timed.ensures)
