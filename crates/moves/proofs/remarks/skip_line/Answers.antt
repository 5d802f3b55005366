-- The answers of the steps, handed on as the definition hands them on.
-- Assumes nothing.
use Rattle.moves.specs.Moves.{skip_line_at}
use Rattle.moves.proofs.remarks.skip_line.Goals as goal

pub returns-then-begins_no_skip : goal.returns-then-begins_no_skip
unfolding skip_line_at
returns-then-begins_no_skip c = rw (← c.begins_no_skip.ensures, c.if-begins_no_skip.true)

pub returns-in_err-past : goal.returns-in_err-past
unfolding skip_line_at
returns-in_err-past c = rw (← c.begins_no_skip.ensures, c.if-begins_no_skip.false, ← c.character.ensures, c.in_err-past.was) c.from_residual.ensures

pub returns : goal.returns
unfolding skip_line_at
returns c = rw (← c.begins_no_skip.ensures, c.if-begins_no_skip.false, ← c.character.ensures, c.in_ok-past.was) c.line_end.ensures
