-- Where a line hangs is decided by the lines before it, so lines hang one after the other: the first n, and then the others.
-- Assumes nothing.
use Rattle.std.specs.Prelude.{Option, Some, None}
use Prim.Native.Nat.{ℕ, zero, suc, ◌+◌, ◌<◌}
use native.Mathlib.Omega.{arith}
use mathlib.Core.Path.{◌≡◌, refl, sym, ap, ◌∙◌}
use Rattle.jkf.specs.Attaching.{near, hang_on, hangs, on_hang, Hung, all, first, hung_from}
use Rattle.jkf.proofs.Nears.{near_same, near_before}

-- ---- the rule looks at the lines before only

pub hangs-before : (f g c d : ℕ → ℕ) (s t k : ℕ) → s ≡ t → 0 < k → ((j : ℕ) → j < k → f j ≡ g j) → ((j : ℕ) → j < k → c j ≡ d j) → hangs f c s k ≡ hangs g d t k
unfolding hangs
hangs-before f g c d s t k z h p q =
    let e : near f s k ≡ near g t k = near_same f g s k p ∙ ap (λ (n : ℕ). near g n k) z in
    let b = near_before g t k h in
    ap (λ (n : ℕ). hang_on s n (f n) (c n)) e ∙ ap (λ (n : ℕ). hang_on s (near g t k) n (c (near g t k))) (p (near g t k) b)
    ∙ ap (λ (n : ℕ). hang_on s (near g t k) (g (near g t k)) n) (q (near g t k) b) ∙ ap (λ (n : ℕ). hang_on n (near g t k) (g (near g t k)) (d (near g t k))) z

-- where the first n hang, the others decide
pub not_all : {A : Type 0} {k ply : ℕ} → first k ply ≡ all → A
not_all e = let z : ◌≡◌ {A = ℕ} 0 1 = ap one e in absurd (omega arith)
  where
    one : Hung → ℕ
    one all = 1
    one (first k ply) = 0

module _ (f c : ℕ → ℕ) where
  hung_split : (n i : ℕ) → hung_from f c i n ≡ all → (m : ℕ) → hung_from f c i (n + m) ≡ hung_from f c (i + n) m
  unfolding hung_from
  hung_split zero i h m =
      let z : 0 + m ≡ m = omega arith in
      let y : i ≡ i + 0 = omega arith in
      ap (hung_from f c i) z ∙ ap (λ (j : ℕ). hung_from f c j m) y
  hung_split (suc n) i h m =
      let z : suc n + m ≡ suc (n + m) = omega arith in
      ap (hung_from f c i) z ∙ go (hangs f c (f i) i) h (hung_split n (i + 1))
    where
      go : (r : Option (ℕ × ℕ)) → on_hang r (λ p e. hung_from f c (i + 1) n) (first i (f i)) ≡ all
          → (hung_from f c (i + 1) n ≡ all → (k : ℕ) → hung_from f c (i + 1) (n + k) ≡ hung_from f c (i + 1 + n) k)
          → on_hang r (λ p e. hung_from f c (i + 1) (n + m)) (first i (f i)) ≡ hung_from f c (i + suc n) m
      go (Some (p, e)) h ih = let y : i + 1 + n ≡ i + suc n = omega arith in ih h m ∙ ap (λ (j : ℕ). hung_from f c j m) y
      go None h ih = not_all h

  -- one line more hangs
  pub hung_more : (n i p e : ℕ) → hung_from f c i n ≡ all → hangs f c (f (i + n)) (i + n) ≡ Some (p, e) → hung_from f c i (n + 1) ≡ all
  unfolding hung_from
  hung_more n i p e h q = hung_split n i h 1 ∙ rw q

  -- or is the first that does not
  pub hung-lost : (n i m : ℕ) → hung_from f c i n ≡ all → hangs f c (f (i + n)) (i + n) ≡ None → hung_from f c i (n + suc m) ≡ first (i + n) (f (i + n))
  unfolding hung_from
  hung-lost n i m h q = hung_split n i h (suc m) ∙ rw q

  -- fewer of them
  pub hung_front : (n i m : ℕ) → hung_from f c i (n + m) ≡ all → hung_from f c i n ≡ all
  unfolding hung_from
  hung_front zero i m h = refl
  hung_front (suc n) i m h =
      let z : suc n + m ≡ suc (n + m) = omega arith in
      go (hangs f c (f i) i) (sym (ap (hung_from f c i) z) ∙ h) (hung_front n (i + 1) m)
    where
      go : (r : Option (ℕ × ℕ)) → on_hang r (λ p e. hung_from f c (i + 1) (n + m)) (first i (f i)) ≡ all → (hung_from f c (i + 1) (n + m) ≡ all → hung_from f c (i + 1) n ≡ all)
          → on_hang r (λ p e. hung_from f c (i + 1) n) (first i (f i)) ≡ all
      go (Some (p, e)) h ih = ih h
      go None h ih = not_all h
