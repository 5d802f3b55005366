-- The answers are those of the definition, test by test.
-- Assumes nothing.
use mathlib.Core.Path.{refl}
use Rattle.positions.specs.Paths.{no_position}
use Rattle.positions.proofs.starts.no_position.Goals as goal

pub returns : goal.returns
unfolding no_position
returns c = refl
