-- Lists of a given length whose elements are all good, and that a write keeps them so.
-- Assumes nothing.
use Prim.Native.Nat.{ℕ, zero, suc}
use mathlib.Core.Path.{◌≡◌, ◌∙◌}
use mathlib.Core.List.{List, [], ◌∷◌}
use lib.ListN.{length, get_or, replicate, set, length-set, length-replicate}

-- n elements, and P holds of each; it holds of 0, which stands for those past the end
pub record Filled (P : ℕ → Type 0) (n : ℕ) (l : List ℕ) : Type 0 where
  pub long : length l ≡ n
  pub each : (i : ℕ) → P (get_or l i 0)

each_set : (P : ℕ → Type 0) (l : List ℕ) (i v : ℕ) → P v → ((j : ℕ) → P (get_or l j 0)) → (j : ℕ) → P (get_or (set l i v) j 0)
each_set P [] i v h k j = k j
each_set P (x ∷ l) zero v h k zero = h
each_set P (x ∷ l) zero v h k (suc j) = k (suc j)
each_set P (x ∷ l) (suc i) v h k zero = k 0
each_set P (x ∷ l) (suc i) v h k (suc j) = each_set P l i v h (λ m. k (suc m)) j

pub filled-set : {P : ℕ → Type 0} {n : ℕ} {l : List ℕ} (i v : ℕ) → P v → Filled P n l → Filled P n (set l i v)
filled-set {P} {l = l} i v h w = record { long = length-set l i v ∙ w.long; each = each_set P l i v h w.each }

each_zero : (P : ℕ → Type 0) → P 0 → (n i : ℕ) → P (get_or (replicate n 0) i 0)
each_zero P h zero i = h
each_zero P h (suc n) zero = h
each_zero P h (suc n) (suc i) = each_zero P h n i

pub filled_zeros : {P : ℕ → Type 0} (n : ℕ) → P 0 → Filled P n (replicate n 0)
filled_zeros {P} n h = record { long = length-replicate n 0; each = each_zero P h n }
