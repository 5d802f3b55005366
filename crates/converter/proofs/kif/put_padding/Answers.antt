-- The spaces stand before the bracket; a width of 13 or more leaves none.
-- Assumes nothing.
use Prim.Native.Nat.{◌-◌}
use mathlib.Core.List.{[], ◌∷◌}
use lib.ListN.{replicate}
use Rattle.lent.proofs.Room.{two_stored}
use Rattle.converter.proofs.kif.put_padding.Goals as goal

pub returns : goal.returns
returns c =
    let e = c.saturating_sub.ensures in
    two_stored (replicate (13 - c.args.width) 32) (40 ∷ []) c.requires (rw e at c.put_run-n.ensures) c.put_at.ensures
