-- Laws on places in a list, and on tests.
-- Assumes nothing.
use Prim.Native.Nat.{ℕ, zero, suc, ◌+◌, ◌≤◌, ◌<◌, zero-le, suc-le-suc}
use native.Mathlib.Nat.{not-suc-le-zero, add-zero}
use native.Mathlib.Numerals.{add-one}
use native.Mathlib.Omega.{arith}
use mathlib.Core.Path.{◌≡◌, refl, sym, ◌∙◌}
use mathlib.Core.List.{List, [], ◌∷◌}
use mathlib.Core.Bool.{Bool, true, false, true≢false, false≢true}
use lib.ListN.{length, get_or, drop}
use lib.Seq.{drop-cons, get_or-drop}
use lib.Dec.{eqb}
use borrow.Author.Tests.{eqb-true, eqb-false}
use Rattle.lists.specs.Pick.{pick}

-- the suffix at a place before the end is its element and the suffix at the next
pub drop_step : (s : List ℕ) (at : ℕ) → at < length s → drop at s ≡ get_or s at 0 ∷ drop (at + 1) s
drop_step s at h = rw (add-one, drop-cons s at 0)

-- the element at a place is the first of the suffix
pub head_at : (s : List ℕ) (at : ℕ) → get_or s at 0 ≡ get_or (drop at s) 0 0
head_at s at = rw (get_or-drop, add-zero)

-- an element of a class that 0 is not of stands in the list
pub class_in : (f : ℕ → Bool) (s : List ℕ) (at : ℕ) → f 0 ≡ false → f (get_or s at 0) ≡ true → at < length s
class_in f [] at z t = let w : true ≡ false = sym t ∙ z in absurd (true≢false w)
class_in f (x ∷ l) zero z t = suc-le-suc zero-le
class_in f (x ∷ l) (suc at) z t = suc-le-suc (class_in f l at z t)

-- an element that is not 0 stands in the list
pub in_list : (s : List ℕ) (at : ℕ) → 0 < get_or s at 0 → at < length s
in_list [] at h = absurd (not-suc-le-zero h)
in_list (x ∷ l) zero h = suc-le-suc zero-le
in_list (x ∷ l) (suc at) h = suc-le-suc (in_list l at h)

-- what holds of both sides of a test holds of what it picks, and each side knows how the test went
pub by_pick : {A : Type 0} (P : A → Type 0) (b : Bool) (x y : A) → (b ≡ true → P x) → (b ≡ false → P y) → P (pick b x y)
by_pick P true x y f g = f refl
by_pick P false x y f g = g refl

-- two tests that passed, taken apart
pub pick_both : (t u : Bool) → pick t u false ≡ true → (t ≡ true) × (u ≡ true)
pick_both true u e = (refl, e)
pick_both false u e = absurd (false≢true e)

-- one test that failed and one that passed, taken apart
pub pick-none : (t u : Bool) → pick t false u ≡ true → (t ≡ false) × (u ≡ true)
pick-none true u e = absurd (false≢true e)
pick-none false u e = (refl, e)

-- ---- a range of numbers, tested one by one

-- a test passes for the n numbers from a on: antt computes it
abbrev pub range : (ℕ → Bool) → ℕ → ℕ → Bool
range f a zero = true
range f a (suc n) = pick (f a) (range f (a + 1) n) false

pub range_at : (f : ℕ → Bool) (n a b : ℕ) → range f a n ≡ true → a ≤ b → b < a + n → f b ≡ true
range_at f zero a b t h k = absurd (omega arith)
range_at f (suc n) a b t h k =
    let (p, q) = pick_both (f a) (range f (a + 1) n) t in
    go (eqb b a) refl p (range_at f n (a + 1) b q)
  where
    go : (u : Bool) → eqb b a ≡ u → f a ≡ true → (a + 1 ≤ b → b < a + 1 + n → f b ≡ true) → f b ≡ true
    go true e p ih = rw (eqb-true b a e) p
    go false e p ih = let ne : b ≡ a → ⊥ = eqb-false b a e in ih (omega arith) (omega arith)
