-- The row stands at its place.
-- Assumes nothing.
use mathlib.Core.Path.{◌∙◌, ap}
use Prim.Native.Nat.{ℕ}
use lib.ListN.{drop}
use Rattle.block.proofs.views.row_of.Goals as goal

pub returns : goal.returns
returns c =
    let b = c.args.b.now in
    c.rest.ensures ∙ ap (λ (n : ℕ). drop n b) c.move_place.ensures.0
