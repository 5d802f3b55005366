-- The line and the column of the place.
-- Assumes nothing.
use mathlib.Core.Path.{ap}
use Rattle.stops.specs.declared.Spot.{Spot}
use Rattle.kif.proofs.kif_spot.Goals as goal

pub returns : goal.returns
returns c = record { line_after = ap (λ (x : Spot). x.line) c.line_column-x.ensures; column_after = ap (λ (x : Spot). x.column) c.line_column-x.ensures }
