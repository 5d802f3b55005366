-- Lists whose first element is of one sort and whose others are of another, as a record's entries begin with the slot: they stay so where
-- what is taken out, or put in, stands after the first.
-- Assumes nothing.
use Prim.Native.Nat.{ℕ, zero, suc, ◌+◌, ◌≤◌, ◌<◌}
use native.Mathlib.Omega.{arith}
use mathlib.Core.List.{List, ◌++◌}
use lib.ListN.{take, drop}
use Rattle.lists.specs.All.{All, none, next, Led, leads}
use Rattle.block.specs.Encode.{concat}
use Rattle.block.specs.Decode.{run}
use Rattle.parser.proofs.Alls.{all_append, all-concat}

module _ {A : Type 0} {P : A → Type 0} where
  pub all_take : {l : List A} (n : ℕ) → All P l → All P (take n l)
  all_take zero h = none
  all_take (suc n) none = none
  all_take (suc n) (next {x = x} {l = l} p h) = next p (all_take {l = l} n h)

  pub all_drop : {l : List A} (n : ℕ) → All P l → All P (drop n l)
  all_drop zero h = h
  all_drop (suc n) none = none
  all_drop (suc n) (next {x = x} {l = l} p h) = all_drop {l = l} n h

  -- what follows from it
  pub all_so : {Q : A → Type 0} → ((x : A) → P x → Q x) → {l : List A} → All P l → All Q l
  all_so f none = none
  all_so f (next {x} p h) = next (f x p) (all_so f h)

  pub all-run : (f : ℕ → A) (n k : ℕ) → ((i : ℕ) → k ≤ i → i < k + n → P (f i)) → All P (run f k n)
  unfolding run
  all-run f zero k h = none
  all-run f (suc n) k h = next (h k (omega arith) (omega arith)) (all-run f n (k + 1) (λ i a b. h i (omega arith) (omega arith)))

module _ {A : Type 0} {P Q : A → Type 0} where
  pub led_run : (f : ℕ → A) (n : ℕ) → 0 < n → P (f 0) → ((i : ℕ) → 0 < i → i < n → Q (f i)) → Led P Q (run f 0 n)
  unfolding run
  led_run f zero z p q = absurd (omega arith)
  led_run f (suc n) z p q = leads p (all-run f n 1 (λ i a b. q i a (omega arith)))

  pub led_take : {l : List A} (n : ℕ) → 0 < n → Led P Q l → Led P Q (take n l)
  led_take zero z h = absurd (omega arith)
  led_take (suc n) z (leads p h) = leads p (all_take n h)

  pub led_drop : {l : List A} (n : ℕ) → 0 < n → Led P Q l → All Q (drop n l)
  led_drop zero z h = absurd (omega arith)
  led_drop (suc n) z (leads p h) = all_drop n h

  pub led_append : {l m : List A} → Led P Q l → All Q m → Led P Q (l ++ m)
  led_append (leads p h) u = leads p (all_append h u)

  pub led_concat : {X : Type 0} (part : X → List A) {xs : List X} → Led (λ x. Led P Q (part x)) (λ x. All Q (part x)) xs → Led P Q (concat part xs)
  unfolding concat
  led_concat part (leads p h) = led_append p (all-concat part h)

  -- what follows from both sorts holds of all
  pub led_so : {R : A → Type 0} → ((x : A) → P x → R x) → ((x : A) → Q x → R x) → {l : List A} → Led P Q l → All R l
  led_so f g (leads {x} p h) = next (f x p) (all_so g h)
