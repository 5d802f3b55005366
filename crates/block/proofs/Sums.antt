-- Sums of a field over the rows of a table.
-- Assumes nothing.
use Prim.Native.Nat.{ℕ, zero, suc, ◌+◌, ◌*◌, ◌≤◌, ◌<◌}
use native.Mathlib.Numerals.{add-one}
use native.Mathlib.Omega.{arith}
use native.Mathlib.Decide.{dec_le}
use mathlib.Core.Path.{◌≡◌, refl, ap, ◌∙◌}
use mathlib.Core.List.{List}
use Rattle.lent.specs.Bytes.{le16}
use Rattle.block.specs.Sound.{sum}

pub sum-none : (f : ℕ → ℕ) → sum f 0 ≡ 0
unfolding sum
sum-none f = refl

pub sum_suc : (f : ℕ → ℕ) (k : ℕ) → sum f (suc k) ≡ sum f k + f k
unfolding sum
sum_suc f k = refl

pub sum_more : (f : ℕ → ℕ) (k : ℕ) → sum f (k + 1) ≡ sum f k + f k
sum_more f k = ap (sum f) (add-one k) ∙ sum_suc f k

-- two fields, row by row or each by itself
pub sum-add : (f g : ℕ → ℕ) (n : ℕ) → sum (λ k. f k + g k) n ≡ sum f n + sum g n
unfolding sum
sum-add f g zero = refl
sum-add f g (suc n) = omega (arith, sum-add f g n)

-- fields that agree
pub sum_same : (f g : ℕ → ℕ) → ((k : ℕ) → f k ≡ g k) → (n : ℕ) → sum f n ≡ sum g n
unfolding sum
sum_same f g h zero = refl
sum_same f g h (suc n) = omega (arith, sum_same f g h n, h n)

-- a sum does not fall
pub sum_rises : (f : ℕ → ℕ) (k n : ℕ) → k ≤ n → sum f k ≤ sum f n
unfolding sum
sum_rises f k zero h = let e : k ≡ 0 = omega arith in rw e (omega arith)
sum_rises f k (suc n) h = go (dec_le k n) (sum_rises f k n)
  where
    go : Dec (k ≤ n) → (k ≤ n → sum f k ≤ sum f n) → sum f k ≤ sum f n + f n
    go (yes l) ih = omega (arith, ih l)
    go (no l) ih = let e : k ≡ suc n = omega arith in rw e (omega arith)

pub sum-within : (f : ℕ → ℕ) (k n : ℕ) → k < n → sum f k + f k ≤ sum f n
sum-within f k n h = omega (arith, sum_suc f k, sum_rises f (suc k) n h)

-- numbers that are none of them 0
pub sum-some : (f : ℕ → ℕ) (n : ℕ) → ((k : ℕ) → k < n → 1 ≤ f k) → n ≤ sum f n
unfolding sum
sum-some f zero h = omega arith
sum-some f (suc n) h = omega (arith, sum-some f n (λ k l. h k (omega arith)), h n (omega arith))

-- a field of a table's rows, added up by the places of the rows
pub field-sum : (b : List ℕ) (f : ℕ → ℕ) (place w n m : ℕ) → ((k : ℕ) → place + w * k ≡ f k) → n ≡ m → sum (λ k. le16 b (place + w * k)) n ≡ sum (λ k. le16 b (f k)) m
field-sum b f place w n m h e = ap (sum (λ k. le16 b (place + w * k))) e ∙ sum_same _ _ (λ k. ap (le16 b) (h k)) m
