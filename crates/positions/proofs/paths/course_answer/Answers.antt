-- A play that stopped, or one that goes to the entry, is answered as the definition says.
-- Assumes nothing.
use Rattle.positions.proofs.Walks.{answer_stopped, answer_goes}
use Rattle.positions.proofs.paths.course_answer.Goals as goal

pub returns-in_default : goal.returns-in_default
returns-in_default c = answer_stopped c.args.c c.in_default.field-0 c.in_default.is c.trail_of-trail.ensures c.no_position.ensures

pub returns : goal.returns
returns c = answer_goes c.args.c c.in-None.is c.trail_of-trail.ensures
