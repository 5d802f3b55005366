-- Header entries in the order in which they are written are entered back into the order of their keys: parts of an ascending list,
-- merged, are the part that has both.
-- Assumes nothing.
use Prim.Native.Nat.{ℕ, zero, suc, ◌+◌, ◌≤◌, ◌<◌}
use native.Mathlib.Omega.{arith}
use mathlib.Core.Path.{◌≡◌, refl, sym, ap, ap₂, ◌∙◌}
use mathlib.Core.List.{List, [], ◌∷◌, ◌++◌}
use mathlib.Core.Bool.{Bool, true, false, true≢false, false≢true}
use lib.ListN.{length}
use lib.Dec.{eqb}
use borrow.Author.Tests.{eqb-true, ne_eqb}
use Rattle.lists.specs.All.{All, none, next}
use Rattle.lists.specs.Pick.{pick}
use Rattle.lists.proofs.Laws.{by_pick, range_at}
use Rattle.jkf.specs.Model.{Header}
use Rattle.block.specs.Encode.{concat}
use Rattle.block.specs.Decode.{run}
use Rattle.text.specs.Text.{same}
use Rattle.std.specs.declared.cmp.Ordering.{Ordering}
use Rattle.std.specs.declared.cmp.Ordering.TheVariants.{Less, Greater}
use Rattle.sorted.specs.Sorted.{enter, enter_all}
use Rattle.sorted.specs.inner.Orders.{into}
use Rattle.sorted.specs.inner.Orders.{merge, Ascending}
use Rattle.sorted.proofs.Orders.{Chain, flip, bytes_chain, bytes_flip}
use Rattle.sorted.proofs.Merges.{enter_all_halves}
use Rattle.parser.specs.Parse.{by_header}
use Rattle.converter.specs.Headers.{leading_keys, number_among, leading_number, numbered, range}

-- ---- parts of an ascending list

abbrev pub keep : {A : Type 0} → (A → Bool) → List A → List A
keep p [] = []
keep p (x ∷ l) = pick (p x) (x ∷ keep p l) (keep p l)

keep_all : {A : Type 0} (P : A → Type 0) (p : A → Bool) (l : List A) → All P l → All P (keep p l)
keep_all P p [] none = none
keep_all {A} P p (x ∷ l) (next a h) = by_pick (λ (k : List A). All P k) (p x) (x ∷ keep p l) (keep p l) (λ _. next a (keep_all P p l h)) (λ _. keep_all P p l h)

keep_same : {A : Type 0} (p q : A → Bool) (l : List A) → ((x : A) → p x ≡ q x) → keep p l ≡ keep q l
keep_same p q [] h = refl
keep_same p q (x ∷ l) h = rw (h x, keep_same p q l h)

keep_true : {A : Type 0} (p : A → Bool) (l : List A) → ((x : A) → p x ≡ true) → keep p l ≡ l
keep_true p [] h = refl
keep_true p (x ∷ l) h = rw (h x, keep_true p l h)

keep_none : {A : Type 0} (l : List A) → keep {A = A} (λ x. false) l ≡ []
keep_none [] = refl
keep_none (x ∷ l) = keep_none l

module _ {A : Type 0} (o : A → A → Ordering) (flips : (x y : A) → o y x ≡ flip (o x y)) where
  into-first : (x : A) (f : List A → List A) (ys : List A) → All (λ y. o x y ≡ Less) ys → into o x f ys ≡ x ∷ f ys
  unfolding into
  into-first x f [] h = refl
  into-first x f (y ∷ ys) (next a h) = rw a

  merge-second : (x : A) (xs ys : List A) → All (λ y. o x y ≡ Less) xs → merge o xs (x ∷ ys) ≡ x ∷ merge o xs ys
  unfolding merge into
  merge-second x [] ys h = refl
  merge-second x (y ∷ xs) ys (next a h) = let e : o y x ≡ Greater = flips x y ∙ ap flip a in rw e

  module _ (p q : A → Bool) (apart : (x : A) → p x ≡ true → q x ≡ false) where
    pub merge_keep : (l : List A) → Ascending o l → merge o (keep p l) (keep q l) ≡ keep (λ x. pick (p x) true (q x)) l
    unfolding merge
    merge_keep [] a = refl
    merge_keep (x ∷ l) a = go (p x) (q x) refl refl (merge_keep l a.1)
      where
        go : (t u : Bool) → p x ≡ t → q x ≡ u → merge o (keep p l) (keep q l) ≡ keep (λ x. pick (p x) true (q x)) l
            → merge o (pick t (x ∷ keep p l) (keep p l)) (pick u (x ∷ keep q l) (keep q l))
            ≡ pick (pick t true u) (x ∷ keep (λ x. pick (p x) true (q x)) l) (keep (λ x. pick (p x) true (q x)) l)
        go true true e f ih = absurd (true≢false (sym f ∙ apart x e))
        go true false e f ih = into-first x (merge o (keep p l)) (keep q l) (keep_all _ q l a.0) ∙ ap (λ (k : List A). x ∷ k) ih
        go false true e f ih = merge-second x (keep p l) (keep q l) (keep_all _ p l a.0) ∙ ap (λ (k : List A). x ∷ k) ih
        go false false e f ih = ih

  module _ (chain : (x y z : A) → Chain (o x y) (o y z) (o x z)) where
    -- entered one by one, an ascending list is what it was
    pub entered-same : (l : List A) → Ascending o l → enter_all o [] l ≡ l
    unfolding enter_all enter merge
    entered-same [] a = refl
    entered-same (x ∷ l) a = enter_all_halves o chain (x ∷ []) l ∙ ap (merge o (x ∷ [])) (entered-same l a.1) ∙ into-first x (merge o []) l a.0

    keep_ascending : (p : A → Bool) (l : List A) → Ascending o l → Ascending o (keep p l)
    keep_ascending p [] a = tt
    keep_ascending p (x ∷ l) a =
        by_pick (λ (k : List A). Ascending o k) (p x) (x ∷ keep p l) (keep p l) (λ _. (keep_all _ p l a.0, keep_ascending p l a.1)) (λ _. keep_ascending p l a.1)

    pub entered_keep : (p : A → Bool) (l : List A) → Ascending o l → enter_all o [] (keep p l) ≡ keep p l
    entered_keep p l a = entered-same (keep p l) (keep_ascending p l a)

-- ---- header entries by the number of their key

abbrev number : Header → ℕ
number h = leading_number h.key

numbered_is : (n : ℕ) (hs : List Header) → numbered n hs ≡ keep (λ h. eqb (number h) n) hs
unfolding numbered
numbered_is n [] = refl
numbered_is n (h ∷ hs) = rw (numbered_is n hs)

-- one of n numbers from k on
abbrev among : ℕ → ℕ → ℕ → Bool
among k zero i = false
among k (suc n) i = pick (eqb i k) true (among (k + 1) n i)

among_below : (n k i : ℕ) → i < k → among k n i ≡ false
among_below zero k i h = refl
among_below (suc n) k i h = rw (ne_eqb i k (λ e. omega arith), among_below n (k + 1) i (omega arith))

header_flip : (x y : Header) → by_header y x ≡ flip (by_header x y)
header_flip x y = bytes_flip x.key y.key

header_chain : (x y z : Header) → Chain (by_header x y) (by_header y z) (by_header x z)
header_chain x y z = bytes_chain x.key y.key z.key

module _ (hs : List Header) (a : Ascending by_header hs) where
  leading_entered : (n k : ℕ) → enter_all by_header [] (concat (λ n. numbered n hs) (run (λ i. i) k n)) ≡ keep (λ h. among k n (number h)) hs
  unfolding concat run enter_all
  leading_entered zero k = sym (keep_none hs)
  leading_entered (suc n) k =
      enter_all_halves by_header header_chain (numbered k hs) (concat (λ n. numbered n hs) (run (λ i. i) (k + 1) n))
      ∙ ap₂ (merge by_header) (ap (enter_all by_header []) (numbered_is k hs) ∙ entered_keep by_header header_flip header_chain (λ h. eqb (number h) k) hs a) (leading_entered n (k + 1))
      ∙ merge_keep by_header header_flip (λ h. eqb (number h) k) (λ h. among (k + 1) n (number h))
      (λ x e. let z : number x ≡ k = eqb-true (number x) k e in among_below n (k + 1) (number x) (omega arith)) hs a

number-low : (ks : List (List ℕ)) (i : ℕ) (t : List ℕ) → i + length ks ≤ 13 → number_among i ks t ≤ 12
unfolding number_among
number-low [] i t h = omega arith
number-low (k ∷ ks) i t h =
    by_pick (λ (n : ℕ). n ≤ 12) (same t k) i (number_among (i + 1) ks t) (λ _. omega arith) (λ _. number-low ks (i + 1) t (omega arith))

-- the entries in the order in which they are written
abbrev pub written : List Header → List Header
written hs = concat (λ n. numbered n hs) (range 1 12) ++ numbered 0 hs

pub order_back : (hs : List Header) → Ascending by_header hs → enter_all by_header [] (written hs) ≡ hs
unfolding leading_number
order_back hs a =
    enter_all_halves by_header header_chain (concat (λ n. numbered n hs) (range 1 12)) (numbered 0 hs)
    ∙ ap₂ (merge by_header) (leading_entered hs a 12 1) (ap (enter_all by_header []) (numbered_is 0 hs) ∙ entered_keep by_header header_flip header_chain (λ h. eqb (number h) 0) hs a)
    ∙ merge_keep by_header header_flip (λ h. among 1 12 (number h)) (λ h. eqb (number h) 0) apart hs a
    ∙ keep_true _ hs every
  where
    apart : (x : Header) → among 1 12 (number x) ≡ true → eqb (number x) 0 ≡ false
    apart x e = ne_eqb (number x) 0 (λ z. absurd (false≢true (sym (among_below 12 1 (number x) (omega arith)) ∙ e)))

    every : (x : Header) → pick (among 1 12 (number x)) true (eqb (number x) 0) ≡ true
    every x = let l = number-low leading_keys 1 x.key (omega arith) in range_at (λ i. pick (among 1 12 i) true (eqb i 0)) 13 0 (number x) refl (omega arith) (omega arith)
