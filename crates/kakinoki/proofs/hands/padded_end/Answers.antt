-- A break past the padding, as the definition says.
-- Assumes nothing.
use Rattle.kakinoki.specs.Informations.{padded_end_at}
use Rattle.kakinoki.proofs.hands.padded_end.Goals as goal

pub returns : goal.returns
unfolding padded_end_at
returns c = rw (← c.padding.ensures, ← c.line_ending.ensures)
