-- Chains of parents.
--     from_then, from_low, from-both, from_start, from-same      a chain goes on; it falls; it is one line; starts fall along it; parents that agree
--     on-way                                                     the line directly under p on the way to a line that comes from p
--     leads-says, leads-from                                     the test is right, where parents stand before their lines
-- Assumes nothing.
use Prim.Native.Nat.{ℕ, zero, suc, ◌≤◌, ◌<◌}
use native.Mathlib.Omega.{arith}
use native.Mathlib.Decide.{dec_lt}
use mathlib.Core.Path.{◌≡◌, refl, sym, ap, ◌∙◌, subst}
use mathlib.Core.Bool.{Bool, true, false}
use lib.Dec.{eqb}
use borrow.Author.Tests.{eqb-true, eqb-false, eq-eqb}
use Rattle.lists.specs.Pick.{pick}
use Rattle.jkf.specs.Trees.{leads_to, HangsFrom, itself, through}

pub from_then : {parent : ℕ → ℕ} {a b c : ℕ} → HangsFrom parent a b → HangsFrom parent b c → HangsFrom parent a c
from_then {parent} {a} f (itself e) = subst (HangsFrom parent a) (sym e) f
from_then f (through g) = through (from_then f g)

-- line 0 is its own parent, the parent of any other of n lines stands before it
pub record Falls (parent : ℕ → ℕ) (n : ℕ) : Type 0 where
  pub first : parent 0 ≡ 0
  pub each : (k : ℕ) → 0 < k → k < n → parent k < k

module _ {parent : ℕ → ℕ} {n : ℕ} (w : Falls parent n) where
  pub parent-low : (i : ℕ) → i < n → parent i ≤ i
  parent-low i h = go (dec_lt 0 i)
    where
      go : Dec (0 < i) → parent i ≤ i
      go (yes z) = omega (arith, w.each i z h)
      go (no z) = let e : i ≡ 0 = omega arith in omega (arith, ap parent e, w.first)

  -- a parent that is not line 0 stands before
  pub parent-before : (i : ℕ) → i < n → 0 < parent i → parent i < i
  parent-before i h p = go (dec_lt 0 i)
    where
      go : Dec (0 < i) → parent i < i
      go (yes z) = w.each i z h
      go (no z) = let e : i ≡ 0 = omega arith in absurd (omega (arith, ap parent e, w.first))

  pub from_low : {a i : ℕ} → HangsFrom parent a i → i < n → a ≤ i
  from_low (itself e) h = omega arith
  from_low (through {i = i} g) h = let l = parent-low i h in omega (arith, from_low g (omega arith))

  -- of two lines on one chain the later comes from the earlier
  pub from_both : {a b i : ℕ} → HangsFrom parent b i → HangsFrom parent a i → i < n → a ≤ b → HangsFrom parent a b
  from_both {a} (itself e) f h l = subst (HangsFrom parent a) e f
  from_both {a} {b} (through {i = i} g) (itself e) h l =
      let p = parent-low i h in
      let q = from_low g (omega arith) in
      let r : b ≡ a = omega arith in
      itself r
  from_both (through {i = i} g) (through f) h l = let p = parent-low i h in from_both g f (omega arith) l

  -- the line directly under p on the way up from j
  pub record OnWay (p j : ℕ) : Type 0 where
    pub child : ℕ
    pub under : parent child ≡ p
    pub past : p < child
    pub on : HangsFrom parent child j

  pub on_way : {p j : ℕ} → HangsFrom parent p j → j < n → p < j → OnWay p j
  on_way (itself e) h l = absurd (omega arith)
  on_way {p} (through {i = i} g) h l =
      let q = parent-low i h in
      go (dec_lt p (parent i)) (from_low g (omega arith)) (on_way g (omega arith))
    where
      go : Dec (p < parent i) → p ≤ parent i → (p < parent i → OnWay p (parent i)) → OnWay p i
      go (yes m) b ih = let r = ih m in record { child = r.child; under = r.under; past = r.past; on = through r.on }
      go (no m) b ih = record { child = i; under = omega arith; past = l; on = itself refl }

  -- starts do not rise on the way up
  pub from_start : (start : ℕ → ℕ) → ((k : ℕ) → 0 < k → k < n → start (parent k) ≤ start k) → {a i : ℕ} → HangsFrom parent a i → i < n → start a ≤ start i
  from_start start s (itself e) h = omega (arith, ap start e)
  from_start start s {a} (through {i = i} g) h =
      let q = parent-low i h in
      go (dec_lt 0 i) (from_start start s g (omega arith))
    where
      go : Dec (0 < i) → start a ≤ start (parent i) → start a ≤ start i
      go (yes z) r = omega (arith, s i z h)
      go (no z) r =
          let e : i ≡ 0 = omega arith in
          omega (arith, ap (λ (q : ℕ). start (parent q)) e, ap start w.first, ap start e)

  -- parents that agree with these make the same chain
  pub from-same : {parent' : ℕ → ℕ} (m : ℕ) → ((i : ℕ) → i < m → parent' i ≡ parent i) → {a i : ℕ} → HangsFrom parent a i → i < m → i < n → HangsFrom parent' a i
  from-same m f (itself e) h l = itself e
  from-same {parent'} m f {a} (through {i = i} g) h l =
      let q = parent-low i l in
      through (subst (HangsFrom parent' a) (sym (f i h)) (from-same m f g (omega arith) (omega arith)))

-- ---- the test

pub leads_says : (parent : ℕ → ℕ) (a n i : ℕ) → leads_to parent a n i ≡ true → HangsFrom parent a i
unfolding leads_to
leads_says parent a zero i h = itself (eqb-true i a h)
leads_says parent a (suc n) i h = go (eqb i a) refl h (leads_says parent a n (parent i))
  where
    go : (t : Bool) → eqb i a ≡ t → pick t true (leads_to parent a n (parent i)) ≡ true
        → (leads_to parent a n (parent i) ≡ true → HangsFrom parent a (parent i)) → HangsFrom parent a i
    go true e h ih = itself (eqb-true i a e)
    go false e h ih = through (ih h)

-- at line 0 a chain ends
from_first : {parent : ℕ → ℕ} {a i : ℕ} → parent 0 ≡ 0 → HangsFrom parent a i → i ≡ 0 → a ≡ 0
from_first z (itself e) q = omega arith
from_first {parent} z (through g) q = from_first z g (ap parent q ∙ z)

-- i steps are enough from line i on
pub leads-from : {parent : ℕ → ℕ} {n : ℕ} → Falls parent n → (m : ℕ) {a i : ℕ} → HangsFrom parent a i → i ≤ m → i < n → leads_to parent a m i ≡ true
unfolding leads_to
leads-from w zero {a} {i} f h l = eq-eqb i a (let z : i ≡ 0 = omega arith in omega (arith, from_first w.first f z))
leads-from {parent} {n} w (suc m) {a} {i} f h l = go (eqb i a) refl f (λ g. leads-from w m g)
  where
    go : (t : Bool) → eqb i a ≡ t → HangsFrom parent a i → (HangsFrom parent a (parent i) → parent i ≤ m → parent i < n → leads_to parent a m (parent i) ≡ true)
        → pick t true (leads_to parent a m (parent i)) ≡ true
    go true e f ih = refl
    go false e f ih = rest (dec_lt 0 i) f
      where
        rest : Dec (0 < i) → HangsFrom parent a i → leads_to parent a m (parent i) ≡ true
        rest (no z) f = let y : i ≡ 0 = omega arith in absurd (eqb-false i a e (omega (arith, from_first w.first f y)))
        rest (yes z) (itself q) = absurd (eqb-false i a e q)
        rest (yes z) (through g) = let b = w.each i z l in ih g (omega arith) (omega arith)
