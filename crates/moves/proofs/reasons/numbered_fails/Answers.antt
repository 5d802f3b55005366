-- The answers of the steps, handed on as the definition hands them on.
-- Assumes nothing.
use Rattle.moves.specs.Failing.{numbered_fail}
use Rattle.moves.proofs.reasons.numbered_fails.Goals as goal

pub returns-in-Err-Absent : goal.returns-in-Err-Absent
unfolding numbered_fail
returns-in-Err-Absent c = rw (← c.blanks-from.ensures, ← c.digits.ensures, c.in-Err-Absent.is, c.in-Err-Absent.field-0-is)

pub returns-in-Err-TooLarge : goal.returns-in-Err-TooLarge
unfolding numbered_fail
returns-in-Err-TooLarge c = rw (← c.blanks-from.ensures, ← c.digits.ensures, c.in-Err-TooLarge.is, c.in-Err-TooLarge.field-0-is)

pub returns-in-Ok : goal.returns-in-Ok
unfolding numbered_fail
returns-in-Ok c = rw (← c.blanks-from.ensures, ← c.digits.ensures, c.in-Ok.is, ← c.blanks.ensures, ← c.played_fails.ensures)
