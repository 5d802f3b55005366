-- After k bytes x is the spot of the place k. No figure is more than 1 + k, so it fits.
-- Assumes nothing.
use mathlib.Core.Path.{◌≡◌}
use Rattle.stops.specs.Stopping.{spot_at}
use Rattle.stops.proofs.spots.line_column.Given as goal

abbrev pub invariant-loop-b : goal.invariant-loop-b
invariant-loop-b l = l.x ≡ spot_at l.b-items l.b-index
