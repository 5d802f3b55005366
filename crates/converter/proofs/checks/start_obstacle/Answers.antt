-- The plain text is asked for none; of the others the first line that is not shown.
-- Assumes nothing.
use mathlib.Core.Logic.{inl, inr}
use Rattle.converter.specs.Show.{start_obstacle}
use Rattle.converter.proofs.checks.start_obstacle.Goals as goal

pub returns-in-Plain : goal.returns-in-Plain
unfolding start_obstacle
returns-in-Plain c = rw c.in-Plain.is

pub returns-in-Whole : goal.returns-in-Whole
unfolding start_obstacle
returns-in-Whole c = elim c.in-Whole.is [ inl e ↦ rw e c.lost_line.ensures | inr e ↦ rw e c.lost_line.ensures ]
