-- The answers are those of the definition, test by test.
-- Assumes nothing.
use mathlib.Core.Path.{refl}
use Rattle.positions.specs.Paths.{hirate}
use Rattle.positions.proofs.starts.hirate.Goals as goal

pub returns : goal.returns
unfolding hirate
returns c = refl
