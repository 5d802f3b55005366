-- The texts are what stands from their place on.
-- Assumes nothing.
use mathlib.Core.Path.{◌∙◌, ap}
use Prim.Native.Nat.{ℕ}
use lib.ListN.{drop}
use Rattle.block.proofs.views.texts_of.Goals as goal

pub returns : goal.returns
returns c =
    let b = c.args.b.now in
    c.rest.ensures ∙ ap (λ (n : ℕ). drop n b) c.text_place.ensures.0
