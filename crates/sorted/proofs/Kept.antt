-- What holds of the kept places: they ascend, they are places that were given, and they are at most as many.
-- Assumes nothing.
use Prim.Native.Nat.{ℕ, ◌≤◌}
use native.Mathlib.Omega.{arith}
use mathlib.Core.Path.{◌≡◌, refl, ap, ◌∙◌, subst}
use mathlib.Core.List.{List, [], ◌∷◌}
use lib.ListN.{length}
use Rattle.lists.specs.All.{All, none, next}
use Rattle.std.specs.declared.cmp.Ordering.{Ordering}
use Rattle.std.specs.declared.cmp.Ordering.TheVariants.{Less, Equal, Greater}
use Rattle.sorted.specs.Sorted.{on_order, by_key, enter, enter_all, kept}
use Rattle.sorted.specs.inner.Orders.{Ascending}
use Rattle.sorted.proofs.Orders.{Chain, flip, key_chain, key_flip}
use Rattle.sorted.proofs.Merges.{enter_all-length}

module _ {A : Type 0} (o : A → A → Ordering) where
  -- what holds of all that is entered holds of all that stays
  pub enter-all : (P : A → Type 0) (l : List A) (p : A) → All P l → P p → All P (enter o l p)
  unfolding enter
  enter-all P [] p none k = next k none
  enter-all P (x ∷ l) p (next a h) k = go (o x p) (enter-all P l p h k)
    where
      go : (q : Ordering) → All P (enter o l p) → All P (on_order q (x ∷ enter o l p) (p ∷ l) (p ∷ x ∷ l))
      go Less r = next a r
      go Equal r = next k h
      go Greater r = next k (next a h)

  pub enter_all-all : (P : A → Type 0) (l ps : List A) → All P l → All P ps → All P (enter_all o l ps)
  unfolding enter_all
  enter_all-all P l [] h none = h
  enter_all-all P l (p ∷ ps) h (next a k) = enter_all-all P (enter o l p) ps (enter-all P l p h a) k

  module _ (chain : (x y z : A) → Chain (o x y) (o y z) (o x z)) (flips : (x y : A) → o y x ≡ flip (o x y)) where
    -- p is below, or equal to, x, so it is below all that x is below
    all_above : (p x : A) (l : List A) (q : Ordering) → o p x ≡ q → ((r : Ordering) → Chain q Less r → r ≡ Less) → All (λ y. o x y ≡ Less) l → All (λ y. o p y ≡ Less) l
    all_above p x [] q e k none = none
    all_above p x (y ∷ l) q e k (next a h) =
        next (k (o p y) (subst (λ (r : Ordering). Chain q r (o p y)) a (subst (λ (q : Ordering). Chain q (o x y) (o p y)) e (chain p x y)))) (all_above p x l q e k h)

    pub enter_ascending : (l : List A) (p : A) → Ascending o l → Ascending o (enter o l p)
    unfolding enter
    enter_ascending [] p h = (none, tt)
    enter_ascending (x ∷ l) p h = go (o x p) refl (enter_ascending l p h.1)
      where
        go : (q : Ordering) → o x p ≡ q → Ascending o (enter o l p) → Ascending o (on_order q (x ∷ enter o l p) (p ∷ l) (p ∷ x ∷ l))
        go Less e r = (enter-all (λ y. o x y ≡ Less) l p h.0 e, r)
        go Equal e r = (all_above p x l Equal (flips x p ∙ ap flip e) (λ r k. k) h.0, h.1)
        go Greater e r = (next (flips x p ∙ ap flip e) (all_above p x l Less (flips x p ∙ ap flip e) (λ r k. k) h.0), h)

    pub enter_all_ascending : (l ps : List A) → Ascending o l → Ascending o (enter_all o l ps)
    unfolding enter_all
    enter_all_ascending l [] h = h
    enter_all_ascending l (p ∷ ps) h = enter_all_ascending (enter o l p) ps (enter_ascending l p h)

-- ---- the kept places

pub kept_ascending : (s ps : List ℕ) → Ascending (by_key s) (kept s ps)
unfolding kept
kept_ascending s ps = enter_all_ascending (by_key s) (key_chain s) (key_flip s) [] ps tt

pub kept-all : (s ps : List ℕ) (P : ℕ → Type 0) → All P ps → All P (kept s ps)
unfolding kept
kept-all s ps P h = enter_all-all (by_key s) P [] ps none h

pub kept-length : (s ps : List ℕ) → length (kept s ps) ≤ length ps
unfolding kept
kept-length s ps = omega (arith, enter_all-length (by_key s) [] ps)
