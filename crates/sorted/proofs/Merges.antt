-- Merging is associative for any lists, so what is entered one by one can be sorted by halves and merged.
-- Assumes nothing: the law of the order is a parameter.
use Prim.Native.Nat.{ℕ, zero, suc, ◌+◌, ◌≤◌}
use native.Mathlib.Nat.{le_refl}
use native.Mathlib.Omega.{arith}
use mathlib.Core.Path.{◌≡◌, refl, sym, ap, ◌∙◌}
use mathlib.Core.List.{List, [], ◌∷◌, ◌++◌, map}
use lib.ListN.{length}
use Rattle.std.specs.declared.cmp.Ordering.{Ordering}
use Rattle.std.specs.declared.cmp.Ordering.TheVariants.{Less, Equal, Greater}
use Rattle.sorted.specs.Sorted.{on_order, enter, enter_all}
use Rattle.sorted.specs.inner.Orders.{into}
use Rattle.sorted.specs.inner.Orders.{merge}
use Rattle.sorted.proofs.Orders.{Chain}

module _ {A : Type 0} (o : A → A → Ordering) where
  pub merge_nil : (l : List A) → merge o l [] ≡ l
  unfolding merge into
  merge_nil [] = refl
  merge_nil (x ∷ l) = ap (λ (k : List A). x ∷ k) (merge_nil l)

  -- to enter one is to merge it
  pub enter-merge : (l : List A) (p : A) → enter o l p ≡ merge o l (p ∷ [])
  unfolding enter merge into
  enter-merge [] p = refl
  enter-merge (x ∷ l) p = rw (enter-merge l p, merge_nil l)

  -- one step of a merge
  module _ {l m ws vs : List A} {w v : A} (p : l ≡ w ∷ ws) (q : m ≡ v ∷ vs) where
    pub less : o w v ≡ Less → merge o l m ≡ w ∷ merge o ws m
    unfolding merge into
    less e = rw (p, q, e)

    pub equal : o w v ≡ Equal → merge o l m ≡ v ∷ merge o ws vs
    unfolding merge into
    equal e = rw (p, q, e)

    pub greater : o w v ≡ Greater → merge o l m ≡ v ∷ merge o l vs
    unfolding merge into
    greater e = rw (p, q, e)

  module _ (chain : (x y z : A) → Chain (o x y) (o y z) (o x z)) where
    assoc : (n : ℕ) (a b c : List A) → length a + length b + length c ≤ n → merge o (merge o a b) c ≡ merge o a (merge o b c)
    unfolding merge
    assoc zero [] b c h = refl
    assoc zero (x ∷ xs) b c h = absurd (omega arith)
    assoc (suc n) [] b c h = refl
    assoc (suc n) (x ∷ xs) [] c h = ap (λ (l : List A). merge o l c) (merge_nil (x ∷ xs))
    assoc (suc n) (x ∷ xs) (y ∷ ys) [] h = merge_nil (merge o (x ∷ xs) (y ∷ ys)) ∙ ap (merge o (x ∷ xs)) (sym (merge_nil (y ∷ ys)))
    assoc (suc n) (x ∷ xs) (y ∷ ys) (z ∷ zs) h = go (assoc n) (o x y) (o y z) (o x z) refl refl refl (chain x y z)
      where
        a : List A
        a = x ∷ xs

        b : List A
        b = y ∷ ys

        c : List A
        c = z ∷ zs

        Goal : Type 0
        Goal = merge o (merge o a b) c ≡ merge o a (merge o b c)

        by : (u : A) {k l : List A} → merge o (merge o a b) c ≡ u ∷ k → k ≡ l → merge o a (merge o b c) ≡ u ∷ l → Goal
        by u p q r = p ∙ ap (λ (k : List A). u ∷ k) q ∙ sym r

        go : ((a b c : List A) → length a + length b + length c ≤ n → merge o (merge o a b) c ≡ merge o a (merge o b c))
            → (p q r : Ordering) → o x y ≡ p → o y z ≡ q → o x z ≡ r → Chain p q r → Goal
        go rec Less Less r e f g t = by x (less {vs = zs} (less {ws = xs} {vs = ys} refl refl e) refl (g ∙ t)) (rec xs b c (omega arith)) (less {ws = xs} refl (less {ws = ys} {vs = zs} refl refl f) e)
        go rec Less Equal r e f g t = by x (less {vs = zs} (less {ws = xs} {vs = ys} refl refl e) refl (g ∙ t)) (rec xs b c (omega arith)) (less {ws = xs} refl (equal {ws = ys} {vs = zs} refl refl f) (g ∙ t))
        go rec Less Greater Less e f g t = by x (less {vs = zs} (less {ws = xs} {vs = ys} refl refl e) refl g) (rec xs b c (omega arith)) (less {ws = xs} refl (greater {ws = ys} {vs = zs} refl refl f) g)
        go rec Less Greater Equal e f g t = by z (equal {vs = zs} (less {ws = xs} {vs = ys} refl refl e) refl g) (rec xs b zs (omega arith)) (equal {ws = xs} refl (greater {ws = ys} {vs = zs} refl refl f) g)
        go rec Less Greater Greater e f g t = by z (greater {vs = zs} (less {ws = xs} {vs = ys} refl refl e) refl g) (rec a b zs (omega arith)) (greater {ws = xs} refl (greater {ws = ys} {vs = zs} refl refl f) g)
        go rec Equal Less r e f g t = by y (less {vs = zs} (equal {ws = xs} {vs = ys} refl refl e) refl f) (rec xs ys c (omega arith)) (equal {ws = xs} refl (less {ws = ys} {vs = zs} refl refl f) e)
        go rec Equal Equal r e f g t = by z (equal {vs = zs} (equal {ws = xs} {vs = ys} refl refl e) refl f) (rec xs ys zs (omega arith)) (equal {ws = xs} refl (equal {ws = ys} {vs = zs} refl refl f) (g ∙ t))
        go rec Equal Greater r e f g t = by z (greater {vs = zs} (equal {ws = xs} {vs = ys} refl refl e) refl f) (rec a b zs (omega arith)) (greater {ws = xs} refl (greater {ws = ys} {vs = zs} refl refl f) (g ∙ t))
        go rec Greater Less r e f g t = by y (less {vs = zs} (greater {ws = xs} {vs = ys} refl refl e) refl f) (rec a ys c (omega arith)) (greater {ws = xs} refl (less {ws = ys} {vs = zs} refl refl f) e)
        go rec Greater Equal r e f g t = by z (equal {vs = zs} (greater {ws = xs} {vs = ys} refl refl e) refl f) (rec a ys zs (omega arith)) (greater {ws = xs} refl (equal {ws = ys} {vs = zs} refl refl f) (g ∙ t))
        go rec Greater Greater r e f g t = by z (greater {vs = zs} (greater {ws = xs} {vs = ys} refl refl e) refl f) (rec a b zs (omega arith)) (greater {ws = xs} refl (greater {ws = ys} {vs = zs} refl refl f) (g ∙ t))

    pub merge_assoc : (a b c : List A) → merge o (merge o a b) c ≡ merge o a (merge o b c)
    merge_assoc a b c = assoc (length a + length b + length c) a b c (le_refl (length a + length b + length c))

    -- to enter many is to merge what is kept of them
    pub enter_all-merge : (l ps : List A) → enter_all o l ps ≡ merge o l (enter_all o [] ps)
    unfolding enter_all enter
    enter_all-merge l [] = sym (merge_nil l)
    enter_all-merge l (p ∷ ps) =
        enter_all-merge (enter o l p) ps ∙ ap (λ (k : List A). merge o k (enter_all o [] ps)) (enter-merge l p)
        ∙ merge_assoc l (p ∷ []) (enter_all o [] ps) ∙ ap (merge o l) (sym (enter_all-merge (p ∷ []) ps))

    pub enter_all-append : (l xs ys : List A) → enter_all o l (xs ++ ys) ≡ enter_all o (enter_all o l xs) ys
    unfolding enter_all
    enter_all-append l [] ys = refl
    enter_all-append l (x ∷ xs) ys = enter_all-append (enter o l x) xs ys

    -- what is kept of two parts, merged, is what is kept of the whole
    pub enter_all_halves : (xs ys : List A) → enter_all o [] (xs ++ ys) ≡ merge o (enter_all o [] xs) (enter_all o [] ys)
    enter_all_halves xs ys = enter_all-append [] xs ys ∙ enter_all-merge (enter_all o [] xs) ys

  enter-length : (l : List A) (p : A) → length (enter o l p) ≤ length l + 1
  unfolding enter
  enter-length [] p = le_refl 1
  enter-length (x ∷ l) p = go (o x p) (enter-length l p)
    where
      go : (q : Ordering) → length (enter o l p) ≤ length l + 1 → length (on_order q (x ∷ enter o l p) (p ∷ l) (p ∷ x ∷ l)) ≤ length (x ∷ l) + 1
      go Less h = omega arith
      go Equal h = omega arith
      go Greater h = omega arith

  pub enter_all-length : (l ps : List A) → length (enter_all o l ps) ≤ length l + length ps
  unfolding enter_all
  enter_all-length l [] = omega arith
  enter_all-length l (p ∷ ps) = omega (arith, enter_all-length (enter o l p) ps, enter-length l p)

-- the same under a map that keeps the order: places, or what stands there
module _ {A B : Type 0} (o : A → A → Ordering) (o' : B → B → Ordering) (f : A → B) (same : (x y : A) → o x y ≡ o' (f x) (f y)) where
  enter-one-map : (l : List A) (p : A) → map f (enter o l p) ≡ enter o' (map f l) (f p)
  unfolding enter
  enter-one-map [] p = refl
  enter-one-map (x ∷ l) p = go (o x p) (o' (f x) (f p)) (same x p) (enter-one-map l p)
    where
      go : (q r : Ordering) → q ≡ r → map f (enter o l p) ≡ enter o' (map f l) (f p)
          → map f (on_order q (x ∷ enter o l p) (p ∷ l) (p ∷ x ∷ l)) ≡ on_order r (f x ∷ enter o' (map f l) (f p)) (f p ∷ map f l) (f p ∷ f x ∷ map f l)
      go Less r e h = rw (← e, h)
      go Equal r e h = rw (← e)
      go Greater r e h = rw (← e)

  pub enter-map : (l ps : List A) → map f (enter_all o l ps) ≡ enter_all o' (map f l) (map f ps)
  unfolding enter_all
  enter-map l [] = refl
  enter-map l (p ∷ ps) = enter-map (enter o l p) ps ∙ ap (λ (k : List B). enter_all o' k (map f ps)) (enter-one-map l p)
