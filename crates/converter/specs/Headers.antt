-- The header as it is written: the leading keys first, the rest by bytes.                             (01, Writing)
-- Assumes nothing: these are definitions.
use Rattle.std.specs.Prelude.{ℕ, ◌+◌, List, [], ◌∷◌, ◌++◌, eqb}
use Rattle.lists.specs.Pick.{pick}
use Rattle.text.specs.Text.{wide_colon, same}
use Rattle.jkf.specs.Model.{Header}
use Rattle.block.specs.Encode.{concat}
use Rattle.block.specs.Decode.{run}

-- 開始日時 終了日時 表題 棋戦 戦型 持ち時間 秒読み 場所 先手 下手 後手 上手.                          (the Rust's HEADER_ORDER)
abbrev pub leading_keys : List (List ℕ)
leading_keys =
    (233 ∷ 150 ∷ 139 ∷ 229 ∷ 167 ∷ 139 ∷ 230 ∷ 151 ∷ 165 ∷ 230 ∷ 153 ∷ 130 ∷ []) ∷  -- 開始日時
    (231 ∷ 181 ∷ 130 ∷ 228 ∷ 186 ∷ 134 ∷ 230 ∷ 151 ∷ 165 ∷ 230 ∷ 153 ∷ 130 ∷ []) ∷  -- 終了日時
    (232 ∷ 161 ∷ 168 ∷ 233 ∷ 161 ∷ 140 ∷ []) ∷  -- 表題
    (230 ∷ 163 ∷ 139 ∷ 230 ∷ 136 ∷ 166 ∷ []) ∷  -- 棋戦
    (230 ∷ 136 ∷ 166 ∷ 229 ∷ 158 ∷ 139 ∷ []) ∷  -- 戦型
    (230 ∷ 140 ∷ 129 ∷ 227 ∷ 129 ∷ 161 ∷ 230 ∷ 153 ∷ 130 ∷ 233 ∷ 150 ∷ 147 ∷ []) ∷  -- 持ち時間
    (231 ∷ 167 ∷ 146 ∷ 232 ∷ 170 ∷ 173 ∷ 227 ∷ 129 ∷ 191 ∷ []) ∷  -- 秒読み
    (229 ∷ 160 ∷ 180 ∷ 230 ∷ 137 ∷ 128 ∷ []) ∷  -- 場所
    (229 ∷ 133 ∷ 136 ∷ 230 ∷ 137 ∷ 139 ∷ []) ∷  -- 先手
    (228 ∷ 184 ∷ 139 ∷ 230 ∷ 137 ∷ 139 ∷ []) ∷  -- 下手
    (229 ∷ 190 ∷ 140 ∷ 230 ∷ 137 ∷ 139 ∷ []) ∷  -- 後手
    (228 ∷ 184 ∷ 138 ∷ 230 ∷ 137 ∷ 139 ∷ []) ∷ []  -- 上手

-- Which of some keys a text is, counted from i; 0 where it is none.
unfoldable pub number_among : ℕ → List (List ℕ) → List ℕ → ℕ
number_among i [] t = 0
number_among i (k ∷ ks) t = let r = number_among (i + 1) ks t in pick (same t k) i r

-- 1 to 12 for a leading key, 0 for any other.
unfoldable pub leading_number : List ℕ → ℕ
leading_number t = number_among 1 leading_keys t

-- The header entries whose key has a number; of a leading key there is at most one, since keys are distinct.
unfoldable pub numbered : ℕ → List Header → List Header
numbered n [] = []
numbered n (h ∷ hs) = let r = numbered n hs in pick (eqb (leading_number h.key) n) (h ∷ r) r

-- n numbers from k on.
abbrev pub range : ℕ → ℕ → List ℕ
range k n = run (λ i. i) k n

-- Key, ：, value, LF.
unfoldable pub header_line : Header → List ℕ
header_line h = ((h.key ++ wide_colon) ++ h.value) ++ (10 ∷ [])

unfoldable pub lines_of : ℕ → List Header → List ℕ
lines_of n hs = concat header_line (numbered n hs)

-- The leading keys in their order, then the others in the order of the header, which is by bytes.      (the Rust's write_header)
unfoldable pub headers_text : List Header → List ℕ
headers_text hs = concat (λ n. lines_of n hs) (range 1 12) ++ lines_of 0 hs
