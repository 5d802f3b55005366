-- How many lines hang from a line, as the line writer and the sibling writer count them: over a run of lines.
--     before-none, before-first       of no lines; the first hangs on a line before line k
--     before-most, before-all         no more than there are; all of them hang on line 0 or after it
--     before-each, before-next        each that is counted hangs on a line not before line k, and the next does not
--     line-most, line-reaches         a line and so many after it: no more than there are, and they are what hangs from the line
--     branched-front                  the first lines of a tree are one
--     under-step, under_next          a line on p is written with what hangs from it, then the lines after that; the next of them hangs on p or above
-- Assumes nothing.
use Prim.Native.Nat.{ℕ, zero, suc, zero-le, ◌+◌, ◌-◌, ◌≤◌, ◌<◌}
use native.Mathlib.Omega.{arith}
use native.Mathlib.Decide.{dec_lt}
use mathlib.Core.Path.{◌≡◌, refl, ap, ◌∙◌, subst}
use borrow.Author.Tests.{le-leb, lt-leb}
use Rattle.jkf.specs.Model.{Line}
use Rattle.jkf.specs.Trees.{not_before}
use Rattle.jkf.proofs.Branching.{Branched}
use Rattle.jkf.proofs.Reaching.{Reaches, after_run}
use Rattle.block.specs.Decode.{run}

-- ---- lines that hang on lines not before line k

module _ (f : ℕ → Line) (k : ℕ) where
  pub before-none : (x : ℕ) → not_before k (run f x 0) ≡ 0
  unfolding not_before run
  before-none x = refl

  before_yes : (x n : ℕ) → k ≤ (f x).parent → not_before k (run f x (suc n)) ≡ suc (not_before k (run f (x + 1) n))
  unfolding not_before run
  before_yes x n h = rw (le-leb _ _ h)

  before_no : (x n : ℕ) → (f x).parent < k → not_before k (run f x (suc n)) ≡ 0
  unfolding not_before run
  before_no x n h = rw (lt-leb _ _ h)

  pub before-first : (x n : ℕ) → (f x).parent < k → not_before k (run f x n) ≡ 0
  before-first x zero h = before-none x
  before-first x (suc n) h = before_no x n h

  pub before-most : (n x : ℕ) → not_before k (run f x n) ≤ n
  before-most zero x = omega (arith, before-none x)
  before-most (suc n) x = go (dec_lt (f x).parent k) (before-most n (x + 1))
    where
      go : Dec ((f x).parent < k) → not_before k (run f (x + 1) n) ≤ n → not_before k (run f x (suc n)) ≤ suc n
      go (yes h) ih = omega (arith, before_no x n h)
      go (no h) ih = omega (arith, before_yes x n (omega arith))

  pub before-each : (n x i : ℕ) → i < not_before k (run f x n) → k ≤ (f (x + i)).parent
  before-each zero x i l = absurd (omega (arith, before-none x))
  before-each (suc n) x i l = go (dec_lt (f x).parent k) i l (before-each n (x + 1))
    where
      go : Dec ((f x).parent < k) → (i : ℕ) → i < not_before k (run f x (suc n))
          → ((j : ℕ) → j < not_before k (run f (x + 1) n) → k ≤ (f (x + 1 + j)).parent) → k ≤ (f (x + i)).parent
      go (yes h) i l ih = absurd (omega (arith, before_no x n h))
      go (no h) zero l ih =
          let e : x ≡ x + 0 = omega arith in
          subst (λ (y : ℕ). k ≤ (f y).parent) e (omega arith)
      go (no h) (suc i) l ih =
          let e : x + 1 + i ≡ x + suc i = omega arith in
          subst (λ (y : ℕ). k ≤ (f y).parent) e (ih i (omega (arith, before_yes x n (omega arith))))

  pub before-next : (n x : ℕ) → not_before k (run f x n) < n → (f (x + not_before k (run f x n))).parent < k
  before-next zero x l = absurd (omega arith)
  before-next (suc n) x l = go (dec_lt (f x).parent k) (before-next n (x + 1))
    where
      go : Dec ((f x).parent < k) → (not_before k (run f (x + 1) n) < n → (f (x + 1 + not_before k (run f (x + 1) n))).parent < k)
          → (f (x + not_before k (run f x (suc n)))).parent < k
      go (yes h) ih =
          let z = before_no x n h in
          let e : x ≡ x + not_before k (run f x (suc n)) = omega arith in
          subst (λ (y : ℕ). (f y).parent < k) e h
      go (no h) ih =
          let z = before_yes x n (omega arith) in
          let e : x + 1 + not_before k (run f (x + 1) n) ≡ x + not_before k (run f x (suc n)) = omega arith in
          subst (λ (y : ℕ). (f y).parent < k) e (ih (omega arith))

  -- m that do, and then the rest
  before_skip : (m n x : ℕ) → ((i : ℕ) → i < m → k ≤ (f (x + i)).parent) → not_before k (run f x (m + n)) ≡ m + not_before k (run f (x + m) n)
  before_skip zero n x h =
      let e : 0 + n ≡ n = omega arith in
      let z : x ≡ x + 0 = omega arith in
      ap (λ (j : ℕ). not_before k (run f x j)) e ∙ ap (λ (y : ℕ). not_before k (run f y n)) z ∙ omega arith
  before_skip (suc m) n x h =
      let e : suc m + n ≡ suc (m + n) = omega arith in
      let z : x + 1 + m ≡ x + suc m = omega arith in
      let o : x + 0 ≡ x = omega arith in
      let first = subst (λ (y : ℕ). k ≤ (f y).parent) o (h 0 (omega arith)) in
      let rest = before_skip m n (x + 1) (λ i l. let y : x + suc i ≡ x + 1 + i = omega arith in subst (λ (y : ℕ). k ≤ (f y).parent) y (h (suc i) (omega arith))) in
      ap (λ (j : ℕ). not_before k (run f x j)) e ∙ before_yes x (m + n) first ∙ ap suc (rest ∙ ap (λ (y : ℕ). m + not_before k (run f y n)) z) ∙ omega arith

pub before-all : (f : ℕ → Line) (n x : ℕ) → not_before 0 (run f x n) ≡ n
before-all f zero x = before-none f 0 x
before-all f (suc n) x = before_yes f 0 x n zero-le ∙ ap suc (before-all f n (x + 1))

-- ---- what hangs from a line, of n lines from it on

module _ (f : ℕ → Line) (k n : ℕ) {r : ℕ} (some : 0 < n) (counted : r ≡ 1 + not_before k (run f (k + 1) (n - 1))) where
  pub line-most : r ≤ n
  line-most = omega (arith, before-most f k (n - 1) (k + 1))

  pub line_reaches : Reaches (λ i. (f i).parent) (k + n) k r
  line_reaches = record { some = omega arith; within = omega (arith, line-most); each = each; next = next }
    where
      each : (i : ℕ) → k < i → i < k + r → k ≤ (f i).parent
      each i a c =
          let e : k + 1 + (i - (k + 1)) ≡ i = omega arith in
          subst (λ (y : ℕ). k ≤ (f y).parent) e (before-each f k (n - 1) (k + 1) (i - (k + 1)) (omega arith))

      next : k + r < k + n → (f (k + r)).parent < k
      next h =
          let e : k + 1 + not_before k (run f (k + 1) (n - 1)) ≡ k + r = omega arith in
          subst (λ (y : ℕ). (f y).parent < k) e (before-next f k (n - 1) (k + 1) (omega arith))

module _ (f : ℕ → Line) (start count : ℕ → ℕ) {m : ℕ} (g : Branched start count (λ i. (f i).parent) m) where
  -- the first n lines
  pub branched_front : (n : ℕ) → n ≤ m → Branched start count (λ i. (f i).parent) n
  branched_front n h = record { origin = g.origin; root = g.root; each = λ i a c. g.each i a (omega arith) }

  module _ (k n r : ℕ) (later : 0 < k) (some : 0 < n) (most : k + n ≤ m) (counted : r ≡ 1 + not_before k (run f (k + 1) (n - 1)))
      (p : ℕ) (on : (f k).parent ≡ p) where
    pub under_step : not_before p (run f k n) ≡ r + not_before p (run f (k + r) (n - r))
    under_step =
        let w = line-most f k n some counted in
        let e : n ≡ r + (n - r) = omega arith in
        ap (λ (j : ℕ). not_before p (run f k j)) e ∙ before_skip f p r (n - r) k each
      where
        each : (i : ℕ) → i < r → p ≤ (f (k + i)).parent
        each i l = go (dec_lt 0 i)
          where
            go : Dec (0 < i) → p ≤ (f (k + i)).parent
            go (yes z) = omega (arith, (g.each k later (omega arith)).before, (line_reaches f k n some counted).each (k + i) (omega arith) (omega arith))
            go (no z) =
                let e : k + i ≡ k = omega arith in
                omega (arith, ap (λ (y : ℕ). (f y).parent) e)

    pub under_next : 0 < n - r → (f (k + r)).parent ≤ p
    under_next h =
        omega (arith, after_run start count (λ i. (f i).parent) (branched_front (k + n) most) (line_reaches f k n some counted) later (omega arith))
