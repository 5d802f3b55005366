-- Every line that was passed starts above s, so the nearest is before it; the first that does not is the nearest.
-- Assumes nothing.
use mathlib.Core.Path.{◌≡◌}
use Rattle.jkf.specs.Attaching.{near}
use Rattle.jkf.specs.Following.{start_at}
use Rattle.jkf.proofs.attaching.nearest_in_turn.Given as goal

abbrev pub invariant-loop-j : goal.invariant-loop-j
invariant-loop-j l = near (start_at l.lines) l.s l.k ≡ near (start_at l.lines) l.s l.j
