-- The spots of a text's places, one byte after another; neither figure grows by more than 1 with a byte.
-- Assumes nothing.
use Prim.Native.Nat.{ℕ, suc, ◌+◌, ◌≤◌, ◌<◌}
use native.Mathlib.Numerals.{add-one}
use native.Mathlib.Omega.{arith}
use mathlib.Core.Path.{◌≡◌, refl, ap, ◌∙◌}
use mathlib.Core.List.{List, [], ◌∷◌, ◌++◌}
use mathlib.Core.Bool.{false}
use lib.ListN.{length, get_or, take, length-take}
use lib.Seq.{take-suc, take_all}
use lib.Dec.{ltb, eqb}
use borrow.Author.Tests.{le-ltb, lt-ltb}
use Rattle.lists.proofs.Laws.{by_pick}
use Rattle.text.specs.Utf8.{is_next}
use Rattle.stops.specs.Stopping.{spot, next_spot, spot_from, spot_at}
use Rattle.stops.specs.declared.Spot.{Spot}

-- ---- a byte that begins a character

pub below_next : {b : ℕ} → b < 128 → is_next b ≡ false
unfolding is_next
below_next h = rw (lt-ltb _ _ h)

pub above-next : {b : ℕ} → 128 ≤ b → ltb b 192 ≡ false → is_next b ≡ false
unfolding is_next
above-next h e = rw (le-ltb _ _ h, e)

-- ---- from a place to the next

spot-then : (x : Spot) (l : List ℕ) (b : ℕ) → spot_from x (l ++ (b ∷ [])) ≡ next_spot b (spot_from x l)
unfolding spot_from
spot-then x [] b = refl
spot-then x (a ∷ l) b = spot-then (next_spot a x) l b

pub spot-next : (s : List ℕ) (k : ℕ) → k < length s → spot_at s (k + 1) ≡ next_spot (get_or s k 0) (spot_at s k)
unfolding spot_at
spot-next s k h = rw (add-one, take-suc s k 0) (spot-then (spot 1 1) (take k s) (get_or s k 0))

-- all bytes before a place are passed
pub spot_end : (s t : List ℕ) (k at : ℕ) → t ≡ take at s → length t ≤ k → spot_at t k ≡ spot_at s at
unfolding spot_at
spot_end s t k at e h = ap (spot_from (spot 1 1)) (take_all k t h ∙ e)

-- ---- how large the figures are

pub record Within (n : ℕ) (x : Spot) : Type 0 where
  pub line : x.line ≤ n
  pub column : x.column ≤ n

next-within : (b : ℕ) {n : ℕ} {x : Spot} → Within n x → Within (suc n) (next_spot b x)
next-within b {n} {x} w =
    by_pick (Within (suc n)) (eqb b 10) _ _ (λ _. record { line = omega arith; column = omega arith })
    (λ _. by_pick (Within (suc n)) (is_next b) _ _ (λ _. record { line = omega arith; column = omega arith }) (λ _. record { line = omega arith; column = omega arith }))

from-within : (l : List ℕ) {n m : ℕ} {x : Spot} → n + length l ≤ m → Within n x → Within m (spot_from x l)
unfolding spot_from
from-within [] h w = record { line = omega arith; column = omega arith }
from-within (b ∷ l) h w = from-within l (omega arith) (next-within b w)

pub spot-within : (s : List ℕ) (k : ℕ) → Within (1 + k) (spot_at s k)
unfolding spot_at
spot-within s k = from-within (take k s) {n = 1} (omega (arith, length-take k s)) (record { line = omega arith; column = omega arith })
