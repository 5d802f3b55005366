-- Laws of decimal numbers: the digits of a number are those of its tens, and its last one.
-- Assumes nothing.
use Prim.Native.Nat.{ℕ, zero, suc, ◌+◌, ◌*◌, ◌-◌, ◌/◌, ◌%◌, ◌≤◌, ◌<◌}
use native.Mathlib.Omega.{arith}
use native.Mathlib.Decide.{dec_lt}
use mathlib.Core.Path.{◌≡◌, refl, ap, ◌∙◌}
use mathlib.Core.List.{List, [], ◌∷◌, ◌++◌}
use mathlib.Core.Bool.{Bool, true, false}
use lib.ListN.{length, length-append, length-replicate, replicate}
use lib.Dec.{ltb}
use borrow.Author.Tests.{lt-ltb, le-ltb, ltb-false}
use Rattle.lists.specs.Pick.{pick}
use Rattle.lent.specs.Numbers.{digits_from, decimal, padded}

-- fuel beyond the number changes nothing
enough : (j k n : ℕ) → n < j → n < k → digits_from j n ≡ digits_from k n
unfolding digits_from
enough zero k n h g = absurd (omega arith)
enough (suc j) zero n h g = absurd (omega arith)
enough (suc j) (suc k) n h g = go (ltb n 10) refl (enough j k (n / 10))
  where
    go : (t : Bool) → ltb n 10 ≡ t → (n / 10 < j → n / 10 < k → digits_from j (n / 10) ≡ digits_from k (n / 10))
        → pick t ((48 + n) ∷ []) (digits_from j (n / 10) ++ ((48 + n % 10) ∷ [])) ≡ pick t ((48 + n) ∷ []) (digits_from k (n / 10) ++ ((48 + n % 10) ∷ []))
    go true e ih = refl
    go false e ih =
        let d : 10 ≤ n = ltb-false n 10 e in
        ap (λ (l : List ℕ). l ++ ((48 + n % 10) ∷ [])) (ih (omega arith) (omega arith))

pub decimal-one : (n : ℕ) → n < 10 → decimal n ≡ (48 + n) ∷ []
unfolding decimal digits_from
decimal-one n h = rw (lt-ltb _ _ h)

pub decimal-more : (n : ℕ) → 10 ≤ n → decimal n ≡ decimal (n / 10) ++ ((48 + n % 10) ∷ [])
unfolding decimal digits_from
decimal-more n h =
    rw (le-ltb _ _ h) (ap (λ (l : List ℕ). l ++ ((48 + n % 10) ∷ [])) (enough n (suc (n / 10)) (n / 10) (omega arith) (omega arith)))

pub decimal-length-one : (n : ℕ) → n < 10 → length (decimal n) ≡ 1
decimal-length-one n h = ap length (decimal-one n h)

pub decimal-length-more : (n : ℕ) → 10 ≤ n → length (decimal n) ≡ length (decimal (n / 10)) + 1
decimal-length-more n h = ap length (decimal-more n h) ∙ length-append (decimal (n / 10)) ((48 + n % 10) ∷ [])

-- ---- how many digits

-- ten, and ten times as much for each further digit
abbrev ten : ℕ → ℕ
ten zero = 10
ten (suc k) = 10 * ten k

-- a number of one digit more is ten times as large
digits : (k v : ℕ) → v < ten k → length (decimal v) ≤ k + 1
digits zero v h = omega (arith, decimal-length-one v h)
digits (suc k) v h = go (dec_lt v 10) (digits k)
  where
    go : Dec (v < 10) → ((w : ℕ) → w < ten k → length (decimal w) ≤ k + 1) → length (decimal v) ≤ suc k + 1
    go (yes l) ih = omega (arith, decimal-length-one v l)
    go (no l) ih = let g : 10 ≤ v = omega arith in omega (arith, decimal-length-more v g, ih (v / 10) (omega arith))

pub digits_two : (v : ℕ) → v < 100 → length (decimal v) ≤ 2
digits_two = digits 1

pub digits_three : (v : ℕ) → v < 1000 → length (decimal v) ≤ 3
digits_three = digits 2

pub digits_five : (v : ℕ) → v < 100000 → length (decimal v) ≤ 5
digits_five = digits 4

pub digits_six : (v : ℕ) → v < 1000000 → length (decimal v) ≤ 6
digits_six = digits 5

pub digits_twenty : (v : ℕ) → v < 100000000000000000000 → length (decimal v) ≤ 20
digits_twenty = digits 19

-- a number as wide as asked, or wider, stands alone
pub padded-none : (w b n : ℕ) → w ≤ length (decimal n) → padded w b n ≡ decimal n
unfolding padded
padded-none w b n h = let z : w - length (decimal n) ≡ 0 = omega arith in ap (λ (k : ℕ). replicate k b ++ decimal n) z

pub padded-some : (w b n : ℕ) → padded w b n ≡ replicate (w - length (decimal n)) b ++ decimal n
unfolding padded
padded-some w b n = refl

-- a padded number is as long as the width, or longer
pub padded-length : (w b n : ℕ) → length (padded w b n) ≡ (w - length (decimal n)) + length (decimal n)
padded-length w b n =
    ap length (padded-some w b n) ∙ length-append (replicate (w - length (decimal n)) b) (decimal n)
    ∙ ap (λ (k : ℕ). k + length (decimal n)) (length-replicate (w - length (decimal n)) b)
