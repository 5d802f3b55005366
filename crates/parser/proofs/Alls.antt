-- What holds of each element of a list; and of each of the items that are read one after the other.
-- Assumes nothing.
use Prim.Native.Nat.{ℕ, zero, suc, ◌<◌}
use native.Mathlib.Nat.{not-suc-le-zero}
use native.Mathlib.Omega.{arith}
use mathlib.Core.List.{List, [], ◌∷◌, ◌++◌, map}
use lib.ListN.{length, get_or}
use Rattle.lists.specs.All.{All, none, next}
use Rattle.lists.specs.Repeat.{Step, more, stop, ended, on_step, many_from}
use Rattle.block.specs.Encode.{concat}

-- of what a step answers
pub data OnStep {A : Type 0} (P : A → Type 0) : Step A → Type 0 where
  goes : {n : ℕ} {a : A} → P a → OnStep P (more n a)
  stops : OnStep P stop

pub index_all : {A : Type 0} (P : A → Type 0) (d : A) (l : List A) → ((k : ℕ) → k < length l → P (get_or l k d)) → All P l
index_all P d [] h = none
index_all P d (x ∷ l) h = next (h 0 (omega arith)) (index_all P d l (λ k b. h (suc k) (omega arith)))

module _ {A : Type 0} {P : A → Type 0} where
  pub all-at : {l : List A} (d : A) → All P l → (k : ℕ) → k < length l → P (get_or l k d)
  all-at d none k h = absurd (not-suc-le-zero h)
  all-at d (next p t) zero h = p
  all-at d (next p t) (suc k) h = all-at d t k (omega arith)

  pub all_any : ((x : A) → P x) → (l : List A) → All P l
  all_any h [] = none
  all_any h (x ∷ l) = next (h x) (all_any h l)

  pub all_append : {l m : List A} → All P l → All P m → All P (l ++ m)
  all_append none u = u
  all_append (next p t) u = next p (all_append t u)

  pub all-concat : {X : Type 0} (part : X → List A) {xs : List X} → All (λ x. All P (part x)) xs → All P (concat part xs)
  unfolding concat
  all-concat part none = none
  all-concat part (next p t) = all_append p (all-concat part t)

  -- what holds of each item holds of each that is read
  pub many_all : {item : ℕ → Step A} → ((at : ℕ) → OnStep P (item at)) → (n at : ℕ) → All P (many_from item n at).state
  unfolding many_from
  many_all h zero at = none
  many_all {item} h (suc n) at = go (h at) (many_all h n)
    where
      go : {r : Step A} → OnStep P r → ((to : ℕ) → All P (many_from item n to).state)
          → All P (on_step r (λ to a. let q = many_from item n to in ended q.at (a ∷ q.state)) (ended at [])).state
      go (goes {n = to} p) ih = next p (ih to)
      go stops ih = none

pub all_map : {A B : Type 0} {P : B → Type 0} (f : A → B) {l : List A} → All (λ x. P (f x)) l → All P (map f l)
all_map f none = none
all_map f (next p t) = next p (all_map f t)
