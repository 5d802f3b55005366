-- What a method of the library says of all items is the test of each.
-- Assumes nothing.
use mathlib.Core.Path.{◌≡◌, refl, sym, ◌∙◌}
use mathlib.Core.Bool.{Bool, true, false}
use Rattle.lists.specs.Test.{Test, flag, claim}
use Rattle.lists.proofs.Tests.{says, answers}

pub as_claimed : (t : Test) (r : Bool) → (r ≡ true → claim t) → (claim t → r ≡ true) → r ≡ flag t
as_claimed t true to from = sym (answers t (to refl))
as_claimed t false to from = go (flag t) refl
  where
    go : (f : Bool) → flag t ≡ f → false ≡ flag t
    go true e = from (says t e) ∙ sym e
    go false e = sym e
