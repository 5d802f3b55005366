-- Texts by bytes: none comes before itself, and one before another comes before all that the other comes before. So the keys of a sound
-- block are distinct.
-- Assumes nothing.
use Prim.Native.Nat.{ℕ, zero, suc, ◌+◌, ◌-◌, ◌≤◌, ◌<◌}
use native.Mathlib.Omega.{arith}
use native.Mathlib.Decide.{dec_lt}
use mathlib.Core.Path.{◌≡◌, refl, sym, ap, ◌∙◌}
use mathlib.Core.List.{List, [], ◌∷◌}
use mathlib.Core.Bool.{Bool, true, false, false≢true}
use lib.Dec.{eqb, ltb}
use borrow.Author.Tests.{lt-ltb, le-ltb, eq-eqb, ltb-true, eqb-true}
use Rattle.lists.specs.Pick.{pick}
use Rattle.block.specs.Decode.{headers_in, key_of}
use Rattle.text.specs.Text.{before}
use Rattle.block.specs.inner.Sounds.{Sound}

-- one text that begins with x before one that begins with y: x is the lower, or they are equal and the rests decide
pub record Lower (x y : ℕ) (a b : List ℕ) : Type 0 where
  pub most : x ≤ y
  pub rests : x ≡ y → before a b ≡ true

-- what one text before another says of the first bytes
lower : (x y : ℕ) (a b : List ℕ) → before (x ∷ a) (y ∷ b) ≡ true → Lower x y a b
unfolding before
lower x y a b h = go (ltb x y) (eqb x y) refl refl h
  where
    go : (u v : Bool) → ltb x y ≡ u → eqb x y ≡ v → pick u true (pick v (before a b) false) ≡ true → Lower x y a b
    go true v e f h = let l : x < y = ltb-true x y e in record { most = omega arith; rests = λ q. absurd (omega arith) }
    go false true e f h = let l : x ≡ y = eqb-true x y f in record { most = omega arith; rests = λ q. h }
    go false false e f h = absurd (false≢true h)

-- and the other way round
raised : (x y : ℕ) (a b : List ℕ) → Lower x y a b → before (x ∷ a) (y ∷ b) ≡ true
unfolding before
raised x y a b l = go (dec_lt x y)
  where
    go : Dec (x < y) → pick (ltb x y) true (pick (eqb x y) (before a b) false) ≡ true
    go (yes h) = rw (lt-ltb x y h)
    go (no h) =
        let m = l.most in
        let e : x ≡ y = omega arith in
        rw (le-ltb x y (omega arith), eq-eqb x y e) (l.rests e)

-- no text comes before itself
pub before_self : (a : List ℕ) → before a a ≡ true → ⊥
unfolding before
before_self [] h = false≢true h
before_self (x ∷ a) h = before_self a ((lower x x a a h).rests refl)

-- one before another comes before what comes after that
pub before-before : (a b c : List ℕ) → before a b ≡ true → before b c ≡ true → before a c ≡ true
unfolding before
before-before a [] c h k = absurd (false≢true h)
before-before a (y ∷ b) [] h k = absurd (false≢true k)
before-before [] (y ∷ b) (z ∷ c) h k = refl
before-before (x ∷ a) (y ∷ b) (z ∷ c) h k =
    let l = lower x y a b h in
    let m = lower y z b c k in
    let l₁ = l.most in
    let m₁ = m.most in
    raised x z a c
    (record {
      most = omega arith;
      rests = λ e. let p : x ≡ y = omega arith in let q : y ≡ z = omega arith in before-before a b c (l.rests p) (m.rests q);
    })

-- ---- the keys of a sound block

module _ (b : List ℕ) (s : Sound b) where
  -- each comes before the next
  key-next : (k : ℕ) → k + 1 < headers_in b → before (key_of b k) (key_of b (k + 1)) ≡ true
  key-next k h =
      let l : k < headers_in b = omega arith in
      let a = (s.headers k l).1.1.1.1 in
      rw (lt-ltb (k + 1) (headers_in b) h) at a

  -- a later key comes after
  key_after : (i d : ℕ) → i + 1 + d < headers_in b → before (key_of b i) (key_of b (i + 1 + d)) ≡ true
  key_after i zero h = let e : i + 1 + 0 ≡ i + 1 = omega arith in rw e (key-next i (omega arith))
  key_after i (suc d) h =
      let e : i + 1 + suc d ≡ i + 1 + d + 1 = omega arith in
      rw e (before-before _ _ _ (key_after i d (omega arith)) (key-next (i + 1 + d) (omega arith)))

  -- so no earlier key is the same
  pub key-other : (i k : ℕ) → i < k → k < headers_in b → key_of b i ≡ key_of b k → ⊥
  key-other i k l h e =
      let d : ℕ = k - (i + 1) in
      let z : i + 1 + d ≡ k = omega arith in
      before_self (key_of b k) (ap (λ (t : List ℕ). before t (key_of b k)) (sym e) ∙ (ap (λ (j : ℕ). before (key_of b i) (key_of b j)) (sym z) ∙ key_after i d (omega arith)))
