-- What holds of each element of a list.
-- Assumes nothing: these are definitions.
use Rattle.std.specs.Prelude.{List, [], ◌∷◌}

-- Of each.
pub data All {A : Type 0} (P : A → Type 0) : List A → Type 0 where
  none : All P []
  next : {x : A} {l : List A} → P x → All P l → All P (x ∷ l)

-- One thing of the first, which there is, and another of each after it.
pub data Led {A : Type 0} (P Q : A → Type 0) : List A → Type 0 where
  leads : {x : A} {l : List A} → P x → All Q l → Led P Q (x ∷ l)
