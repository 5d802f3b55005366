-- Which leading key a text is: a number above 0 says the text, and the text's first character the only number that it can have.
--     one_key   two texts with one number above 0 are the same
--     only      a text whose first character differs from those of all other keys is that one or none
-- Assumes nothing.
use Prim.Native.Nat.{ℕ, suc, ◌+◌, ◌*◌, ◌-◌, ◌≤◌, ◌<◌}
use native.Mathlib.Decide.{dec_lt}
use native.Mathlib.Omega.{arith}
use mathlib.Core.Path.{◌≡◌, refl, sym, ap, ◌∙◌}
use mathlib.Core.List.{List, [], ◌∷◌, ◌++◌}
use mathlib.Core.Bool.{Bool, true, false, false≢true}
use lib.ListN.{length, get_or, take, drop, replicate}
use lib.Dec.{eqb, leb}
use borrow.Author.Tests.{leb-true, eqb-true, eq-eqb}
use Rattle.lists.specs.Pick.{pick}
use Rattle.lists.proofs.Laws.{pick_both, range, range_at}
use Rattle.text.specs.Text.{same}
use Rattle.converter.specs.Headers.{leading_keys, number_among, leading_number}
use Rattle.text.proofs.Laws.{same_is, same_refl}

-- ---- a number among some keys

-- a number is that of a key
number-most : (i : ℕ) (ks : List (List ℕ)) (t : List ℕ) → 0 < i → number_among i ks t < i + length ks
unfolding number_among
number-most i [] t h = omega arith
number-most i (k ∷ ks) t h = go (same t k) (number-most (i + 1) ks t (omega arith))
  where
    go : (u : Bool) → number_among (i + 1) ks t < i + 1 + length ks → pick u i (number_among (i + 1) ks t) < i + suc (length ks)
    go true ih = omega arith
    go false ih = omega arith

-- a text with a number above 0 is the key of that number
number-key : (i : ℕ) (ks : List (List ℕ)) (t : List ℕ) (v : ℕ) → number_among i ks t ≡ v → 0 < v → (i ≤ v) × (t ≡ get_or ks (v - i) [])
unfolding number_among
number-key i [] t v e h = absurd (omega arith)
number-key i (k ∷ ks) t v e h = go (same t k) refl e (number-key (i + 1) ks t v)
  where
    go : (u : Bool) → same t k ≡ u → pick u i (number_among (i + 1) ks t) ≡ v
        → (number_among (i + 1) ks t ≡ v → 0 < v → (i + 1 ≤ v) × (t ≡ get_or ks (v - (i + 1)) []))
        → (i ≤ v) × (t ≡ get_or (k ∷ ks) (v - i) [])
    go true q e ih = let z : v - i ≡ 0 = omega arith in (omega arith, rw z (same_is t k q))
    go false q e ih =
        let (a, d) = ih e h in
        let z : v - i ≡ suc (v - (i + 1)) = omega arith in
        (omega arith, rw z d)

-- ---- the leading keys

-- there are 12
pub leading_most : (t : List ℕ) → leading_number t ≤ 12
unfolding leading_number
leading_most t = omega (arith, number-most 1 leading_keys t (omega arith))

-- two texts with one number above 0 are the same
pub one_key : (t u : List ℕ) → leading_number t ≡ leading_number u → 0 < leading_number u → t ≡ u
unfolding leading_number
one_key t u e h =
    (number-key 1 leading_keys t (number_among 1 leading_keys u) e h).1
    ∙ sym (number-key 1 leading_keys u (number_among 1 leading_keys u) refl h).1

-- a key has its own number: antt computes it for the 12
key-number : (j : ℕ) → j < 12 → leading_number (get_or leading_keys j []) ≡ j + 1
unfolding leading_number number_among same
key-number j h = eqb-true _ _ (range_at (λ k. eqb (leading_number (get_or leading_keys k [])) (k + 1)) 12 0 j refl (omega arith) (omega arith))

-- key j is number v, or its first character ends in other bytes than b and c
abbrev other : ℕ → ℕ → ℕ → ℕ → Bool
other b c v j = pick (eqb (j + 1) v) true (pick (eqb b (get_or (get_or leading_keys j []) 1 0)) (pick (eqb c (get_or (get_or leading_keys j []) 2 0)) false true) true)

-- so are all keys
abbrev pub others : ℕ → ℕ → ℕ → Bool
others b c v = range (other b c v) 0 12

-- a key with these bytes is number v
the_other : (b c v j : ℕ) → j < 12 → others b c v ≡ true → b ≡ get_or (get_or leading_keys j []) 1 0 → c ≡ get_or (get_or leading_keys j []) 2 0 → j + 1 ≡ v
the_other b c v j h o d e = go (eqb (j + 1) v) refl (range_at (other b c v) 12 0 j o (omega arith) (omega arith))
  where
    go : (u : Bool) → eqb (j + 1) v ≡ u → pick u true (pick (eqb b (get_or (get_or leading_keys j []) 1 0)) (pick (eqb c (get_or (get_or leading_keys j []) 2 0)) false true) true) ≡ true → j + 1 ≡ v
    go true q w = eqb-true _ _ q
    go false q w = absurd (false≢true (rw (eq-eqb b _ d, eq-eqb c _ e) at w))

module _ (t : List ℕ) (b c v : ℕ) (p : get_or t 1 0 ≡ b) (q : get_or t 2 0 ≡ c) (l : v ≤ 12) (o : others b c v ≡ true) where
  -- a text that is a leading key is key v
  only_key : 0 < leading_number t → leading_number t ≡ pick (same t (get_or leading_keys (v - 1) [])) v 0
  unfolding leading_number
  only_key h =
      let n = leading_number t in
      let k : t ≡ get_or leading_keys (n - 1) [] = (number-key 1 leading_keys t n refl h).1 in
      let m = leading_most t in
      let z : n - 1 + 1 ≡ v = the_other b c v (n - 1) (omega arith) o (sym p ∙ ap (λ (s : List ℕ). get_or s 1 0) k) (sym q ∙ ap (λ (s : List ℕ). get_or s 2 0) k) in
      let y : n ≡ v = omega arith in
      let same_key : same t (get_or leading_keys (v - 1) []) ≡ true = rw (← y, ← k) (same_refl t) in
      rw same_key y

  -- and one that is key v has its number
  only_number : same t (get_or leading_keys (v - 1) []) ≡ true → 0 < v → leading_number t ≡ v
  only_number e h = let z : v - 1 + 1 ≡ v = omega arith in ap leading_number (same_is t _ e) ∙ key-number (v - 1) (omega arith) ∙ z

  -- so it is key v or none
  pub only : leading_number t ≡ pick (same t (get_or leading_keys (v - 1) [])) v 0
  only = go (dec_lt 0 (leading_number t))
    where
      none : (u : Bool) → same t (get_or leading_keys (v - 1) []) ≡ u → leading_number t ≡ 0 → 0 ≡ pick u v 0
      none true e z = out (dec_lt 0 v)
        where
          out : Dec (0 < v) → 0 ≡ v
          out (yes h) = let q = only_number e h in omega arith
          out (no h) = omega arith
      none false e z = refl

      go : Dec (0 < leading_number t) → leading_number t ≡ pick (same t (get_or leading_keys (v - 1) [])) v 0
      go (yes h) = only_key h
      go (no h) = let z : leading_number t ≡ 0 = omega arith in z ∙ none _ refl z

-- ---- how the code holds the keys

-- a row is a key's length and its bytes, with zeros to 13
abbrev pub key_rows : List (List ℕ) → List ℕ
key_rows [] = []
key_rows (k ∷ ks) = (length k ∷ (k ++ replicate (12 - length k) 0)) ++ key_rows ks

-- row j of a table is key j, and ends in the table: antt computes it for the 12 rows
abbrev keyed : List ℕ → ℕ → Bool
keyed s j = pick (leb (13 * j + 1 + get_or s (13 * j) 0) 156) (same (take (get_or s (13 * j) 0) (drop (13 * j + 1) s)) (get_or leading_keys j [])) false

-- at all of them
keyed_all : range (keyed (key_rows leading_keys)) 0 12 ≡ true
unfolding same
keyed_all = refl

-- so at any of them
key_row : (j : ℕ) → j < 12 → keyed (key_rows leading_keys) j ≡ true
key_row j h = range_at (keyed (key_rows leading_keys)) 12 0 j keyed_all (omega arith) (omega arith)

-- the row of key n, whose bytes begin at b
module _ (s : List ℕ) (b n : ℕ) (e : s ≡ key_rows leading_keys) (a : b + 12 ≡ 13 * n) (l : 1 ≤ n) (m : n ≤ 12) where
  -- is such a row
  row_keyed : keyed s (n - 1) ≡ true
  row_keyed = rw e (key_row (n - 1) (omega arith))

  -- it ends in the table
  pub row-size : (w : ℕ) → w ≡ get_or s (b - 1) 0 → b + w ≤ 156
  row-size w q =
      let z : 13 * (n - 1) ≡ b - 1 = omega arith in
      let (p, _) = pick_both (leb (13 * (n - 1) + 1 + get_or s (13 * (n - 1)) 0) 156) _ row_keyed in
      let h = leb-true (13 * (n - 1) + 1 + get_or s (13 * (n - 1)) 0) 156 p in
      let v : w ≡ get_or s (13 * (n - 1)) 0 = q ∙ ap (λ (i : ℕ). get_or s i 0) (sym z) in
      omega arith

  -- and holds the key
  pub row_word : (w : ℕ) → w ≡ get_or s (b - 1) 0 → take (b + w - b) (drop b s) ≡ get_or leading_keys (n - 1) []
  row_word w q =
      let z : 13 * (n - 1) ≡ b - 1 = omega arith in
      let x : b ≡ 13 * (n - 1) + 1 = omega arith in
      let y : b + w - b ≡ w = omega arith in
      let (_, p) = pick_both (leb (13 * (n - 1) + 1 + get_or s (13 * (n - 1)) 0) 156) _ row_keyed in
      let v : w ≡ get_or s (13 * (n - 1)) 0 = q ∙ ap (λ (i : ℕ). get_or s i 0) (sym z) in
      rw (y, v, x) (same_is _ _ p)
