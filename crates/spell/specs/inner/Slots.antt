-- Characters of three bytes in slots: how the code finds the number of one at once.
-- Assumes nothing: these are definitions.
use Rattle.std.specs.Prelude.{ℕ, ◌+◌, ◌/◌, ◌%◌, List, [], ◌∷◌, eqb, ltb}
use Rattle.lists.specs.Pick.{pick}

-- What stands in slot h; where nothing does, a number that is larger than any code.
abbrev pub look : List (ℕ × ℕ) → ℕ → ℕ
look [] h = 4294967295
look ((k, v) ∷ l) h = pick (eqb h k) v (look l h)

-- The number of a code by m slots: that of its slot where the slot has the code, 0 where it has another or none.
unfoldable pub number_in : List (ℕ × ℕ) → ℕ → ℕ → ℕ
number_in slots m x = pick (eqb (look slots (x % m) / 16) x) (look slots (x % m) % 16) 0

-- 一 to 九: in the slot of a code, which is its remainder by 17, the code times 16 and the number.
abbrev pub numeral_slots : List (ℕ × ℕ)
numeral_slots =
    (1, 239839557) ∷  -- 五
    (5, 239831187) ∷  -- 三
    (6, 240671416) ∷  -- 八
    (8, 240671446) ∷  -- 六
    (9, 239835609) ∷  -- 九
    (10, 239839426) ∷  -- 二
    (12, 240761268) ∷  -- 四
    (13, 239831041) ∷  -- 一
    (16, 239831095) ∷ []  -- 七

-- The kinds of one character, by the remainder by 35.
abbrev pub kind_slots : List (ℕ × ℕ)
kind_slots =
    (2, 245000594) ∷  -- 香
    (3, 244873493) ∷  -- 金
    (4, 238557833) ∷  -- と
    (5, 242804888) ∷  -- 玉
    (6, 244988343) ∷  -- 飛
    (7, 242804920) ∷  -- 王
    (9, 245098718) ∷  -- 龍
    (10, 240671372) ∷  -- 全
    (12, 241883793) ∷  -- 歩
    (16, 241834019) ∷  -- 桂
    (19, 244885508) ∷  -- 銀
    (20, 241817850) ∷  -- 杏
    (21, 245000909) ∷  -- 馬
    (23, 240765659) ∷  -- 圭
    (25, 243956006) ∷  -- 角
    (28, 242923982) ∷ []  -- 竜

-- The kind that 成 and a kind make, 0 where they make none: 香, 桂 and 銀 are 2 to 4, and promoted 10 to 12.
abbrev pub promoted_of : ℕ → ℕ
promoted_of k = pick (ltb k 2) 0 (pick (ltb 4 k) 0 (k + 8))

-- The same of the character of a code.
unfoldable pub promoted_in : ℕ → ℕ
promoted_in x = promoted_of (number_in kind_slots 35 x)
