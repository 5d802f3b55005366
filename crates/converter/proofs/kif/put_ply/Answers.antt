-- The number and the space after it, for which there is room.
-- Assumes nothing.
use Rattle.lent.proofs.Room.{two_stored}
use mathlib.Core.List.{[], ◌∷◌}
use Rattle.lent.specs.Numbers.{padded}
use Rattle.converter.proofs.kif.put_ply.Goals as goal

pub returns : goal.returns
returns c =
    two_stored (padded 4 32 c.args.ply) (32 ∷ []) c.requires c.put_padded-n.ensures c.put_at.ensures
