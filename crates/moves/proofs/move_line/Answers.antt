-- The line alone.
-- Assumes nothing.
use mathlib.Core.Path.{ap}
use Rattle.moves.proofs.move_line.Goals as goal

pub returns : goal.returns
returns c = ap (λ r. r.line) c.taken_line.ensures
