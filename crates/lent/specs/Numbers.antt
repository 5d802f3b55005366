-- Decimal numbers, as the Rust's `{}`, `{:2}`, `{:02}` and `{:4}` print them.
-- Assumes nothing: these are definitions.
use Rattle.std.specs.Prelude.{ℕ, zero, suc, ◌+◌, ◌-◌, ◌/◌, ◌%◌, List, [], ◌∷◌, ◌++◌, length, replicate, ltb}
use Rattle.lists.specs.Pick.{pick}

-- The digits of n, the last one last. The first number is fuel, and n + 1 is enough.
unfoldable pub digits_from : ℕ → ℕ → List ℕ
digits_from zero n = []
digits_from (suc k) n = let r = digits_from k (n / 10) in pick (ltb n 10) ((48 + n) ∷ []) (r ++ ((48 + n % 10) ∷ []))

-- `{}`.                                                                                     (01, Writing)
unfoldable pub decimal : ℕ → List ℕ
decimal n = digits_from (suc n) n

-- `{:2}` is `padded 2 32`, `{:02}` is `padded 2 48`, `{:4}` is `padded 4 32`: the byte stands in front as often as digits are
-- missing to the width, and a longer number is not cut.                                     (01, Writing)
unfoldable pub padded : ℕ → ℕ → ℕ → List ℕ
padded w b n = replicate (w - length (decimal n)) b ++ decimal n
