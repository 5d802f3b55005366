-- The answers of the rules are handed on as the definition of each case hands them on.
-- Assumes nothing.
use mathlib.Core.Path.{ap, ◌∙◌}
use Rattle.moves.specs.Failing.{further}
use Rattle.stops.specs.Stopping.{tried_at}
use Rattle.stops.proofs.tries.tried.Goals as goal

pub returns-in-AtHead : goal.returns-in-AtHead
unfolding tried_at
returns-in-AtHead c = rw (c.in-AtHead.is, ← c.comment_fails-comment.ensures, ← c.move_line_fails-played.ensures, ← c.skip_line_fails-skip.ensures) (c.further_of-in-AtHead.ensures ∙ ap (further c.skip_line_fails-skip.result) c.further_of.ensures)

pub returns-in-AfterComments : goal.returns-in-AfterComments
unfolding tried_at
returns-in-AfterComments c = rw (c.in-AfterComments.is, ← c.comment_fails-comment.ensures, ← c.move_line_fails-played.ensures, ← c.skip_line_fails-skip.ensures) (c.further_of-in-AfterComments-2.ensures ∙ ap (further c.comment_fails-comment.result) c.further_of-in-AfterComments.ensures)

pub returns-in-AfterSkips : goal.returns-in-AfterSkips
unfolding tried_at
returns-in-AfterSkips c = rw (c.in-AfterSkips.is, ← c.move_line_fails-played.ensures, ← c.skip_line_fails-skip.ensures) c.further_of-in-AfterSkips.ensures
