-- The answer's own case.
-- Assumes nothing.
use Rattle.edges.proofs.is_past.Goals as goal

pub returns-in-Some : goal.returns-in-Some
returns-in-Some c = rw c.in-Some.is
