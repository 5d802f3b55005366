-- A sum over a list with one element set, and a count of hands with one set.
-- Assumes nothing.
use Prim.Native.Nat.{ℕ, zero, suc, ◌+◌, ◌<◌}
use native.Mathlib.Nat.{not-suc-le-zero, le_of_suc-le-suc}
use native.Mathlib.Omega.{arith}
use mathlib.Core.Path.{◌≡◌, refl, ap, ◌∙◌}
use mathlib.Core.Bool.{Bool, true, false}
use mathlib.Core.List.{List, [], ◌∷◌}
use lib.ListN.{length, get_or, set}
use lib.Seq.{get_or-set_same, get_or-set_other}
use lib.Dec.{eqb}
use borrow.Author.Tests.{eqb-true, eqb-false}
use Rattle.lists.specs.Pick.{pick}
use Rattle.positions.specs.Pieces.{sum_over, in_both}

-- what goes out of a sum and what comes in
pub sum-set : (f : ℕ → ℕ) (l : List ℕ) (i v : ℕ) → i < length l → sum_over f (set l i v) + f (get_or l i 0) ≡ sum_over f l + f v
unfolding sum_over
sum-set f [] i v h = absurd (not-suc-le-zero h)
sum-set f (x ∷ l) zero v h = omega arith
sum-set f (x ∷ l) (suc i) v h = let r = sum-set f l i v (le_of_suc-le-suc h) in omega arith

-- an element after a set
pub get_set : (l : List ℕ) (i j v : ℕ) → i < length l → get_or (set l i v) j 0 ≡ pick (eqb j i) v (get_or l j 0)
get_set l i j v h = go (eqb j i) refl
  where
    go : (t : Bool) → eqb j i ≡ t → get_or (set l i v) j 0 ≡ pick t v (get_or l j 0)
    go true e = ap (λ (n : ℕ). get_or (set l i v) n 0) (eqb-true j i e) ∙ get_or-set_same l i v 0 h
    go false e = get_or-set_other l i j v 0 (eqb-false j i e)

-- in both hands, where the count of class q of one side (s is 0 or 7) is set
pub both_set : (l : List ℕ) (s q j v : ℕ) → length l ≡ 14 → (t : Bool) → s ≡ pick t 0 7 → q < 7 → j < 7
    → in_both (set l (s + q) v) j + pick (eqb q j) (get_or l (s + q) 0) 0 ≡ in_both l j + pick (eqb q j) v 0
both_set l s q j v len t e hq hj = go t e (eqb q j) refl
  where
    go : (t : Bool) → s ≡ pick t 0 7 → (u : Bool) → eqb q j ≡ u → in_both (set l (s + q) v) j + pick u (get_or l (s + q) 0) 0 ≡ in_both l j + pick u v 0
    go true e true f =
        let z : j ≡ s + q = omega (arith, eqb-true q j f) in
        let a = ap (λ (n : ℕ). get_or (set l (s + q) v) n 0) z ∙ get_or-set_same l (s + q) v 0 (omega arith) in
        let b = get_or-set_other l (s + q) (7 + j) v 0 (λ y. omega arith) in
        let g : get_or l j 0 ≡ get_or l (s + q) 0 = ap (λ (n : ℕ). get_or l n 0) z in
        omega arith
    go true e false f =
        let ne : q ≡ j → ⊥ = eqb-false q j f in
        let a = get_or-set_other l (s + q) j v 0 (λ y. ne (omega arith)) in
        let b = get_or-set_other l (s + q) (7 + j) v 0 (λ y. omega arith) in
        omega arith
    go false e true f =
        let z : 7 + j ≡ s + q = omega (arith, eqb-true q j f) in
        let a = ap (λ (n : ℕ). get_or (set l (s + q) v) n 0) z ∙ get_or-set_same l (s + q) v 0 (omega arith) in
        let b = get_or-set_other l (s + q) j v 0 (λ y. omega arith) in
        let g : get_or l (7 + j) 0 ≡ get_or l (s + q) 0 = ap (λ (n : ℕ). get_or l n 0) z in
        omega arith
    go false e false f =
        let ne : q ≡ j → ⊥ = eqb-false q j f in
        let a = get_or-set_other l (s + q) j v 0 (λ y. omega arith) in
        let b = get_or-set_other l (s + q) (7 + j) v 0 (λ y. ne (omega arith)) in
        omega arith

-- what holds of each element and of the new one holds after a set
pub all_set : (P : ℕ → Type 0) (l : List ℕ) (n v : ℕ) → ((i : ℕ) → P (get_or l i 0)) → P v → (i : ℕ) → P (get_or (set l n v) i 0)
all_set P [] n v h p i = h i
all_set P (x ∷ l) zero v h p zero = p
all_set P (x ∷ l) zero v h p (suc i) = h (suc i)
all_set P (x ∷ l) (suc n) v h p zero = h zero
all_set P (x ∷ l) (suc n) v h p (suc i) = all_set P l n v (λ i. h (suc i)) p i
