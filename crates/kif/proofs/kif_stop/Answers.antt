-- The figures of where reading stops, one by one.
-- Assumes nothing.
use mathlib.Core.Path.{ap, ◌∙◌}
use Rattle.stops.specs.Stopping.{stop_figures, stop_of}
use Rattle.kif.proofs.Telling.{stop-told}
use Rattle.kif.proofs.kif_stop.Goals as goal

pub returns : goal.returns
returns c = stop-told (stop_of c.args.text.now) (c.stop_figures-f.ensures ∙ ap stop_figures c.stop.ensures)
