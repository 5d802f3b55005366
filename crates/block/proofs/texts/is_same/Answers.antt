-- The equality of the library is that of the definition.
-- Assumes nothing.
use Prim.Native.Nat.{ℕ}
use mathlib.Core.Path.{◌≡◌, refl, ◌∙◌}
use mathlib.Core.List.{List, [], ◌∷◌}
use Rattle.std.specs.Prelude.{nat_eq}
use Rattle.std.specs.Cmp.Lexicographic.{pointwise}
use mathlib.Core.Bool.{Bool, true, false, ◌&&◌}
use Rattle.lists.specs.Pick.{pick}
use Rattle.text.specs.Text.{same}
use Rattle.block.proofs.texts.is_same.Goals as goal

both : (s t : Bool) → (s && t) ≡ pick s t false
both true t = refl
both false t = refl

same_bytes : (a b : List ℕ) → pointwise nat_eq a b ≡ same a b
unfolding same
same_bytes [] [] = refl
same_bytes [] (y ∷ b) = refl
same_bytes (x ∷ a) [] = refl
same_bytes (x ∷ a) (y ∷ b) = rw (same_bytes a b) (both (nat_eq x y) (same a b))

pub returns : goal.returns
returns c = c.eq.ensures ∙ same_bytes c.args.a.now c.args.b.now
