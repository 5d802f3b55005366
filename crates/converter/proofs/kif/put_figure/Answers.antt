-- The number and the byte after it, for which there is room.
-- Assumes nothing.
use Rattle.lent.proofs.Room.{two_stored}
use mathlib.Core.List.{[], ◌∷◌}
use Rattle.lent.specs.Numbers.{padded}
use Rattle.converter.proofs.kif.put_figure.Goals as goal

pub returns : goal.returns
returns c =
    let a = c.args in
    two_stored (padded 2 a.fill a.v) (a.after ∷ []) c.requires c.put_padded-n.ensures c.put_at.ensures
