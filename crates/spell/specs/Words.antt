-- The words of the format, which readers and writers share.                                           (01, Reading rules)
-- Assumes nothing: these are definitions.
use Rattle.std.specs.Prelude.{ℕ, List, [], ◌∷◌, ◌++◌, replicate}

-- ---- information lines

-- 手合割：
abbrev pub preset_tag : List ℕ
preset_tag = 230 ∷ 137 ∷ 139 ∷ 229 ∷ 144 ∷ 136 ∷ 229 ∷ 137 ∷ 178 ∷ 239 ∷ 188 ∷ 154 ∷ []

-- 番
abbrev pub turn_tag : List ℕ
turn_tag = 231 ∷ 149 ∷ 170 ∷ []

-- の持駒：
abbrev pub hands_tag : List ℕ
hands_tag = 227 ∷ 129 ∷ 174 ∷ 230 ∷ 140 ∷ 129 ∷ 233 ∷ 167 ∷ 146 ∷ 239 ∷ 188 ∷ 154 ∷ []

-- なし
abbrev pub none_tag : List ℕ
none_tag = 227 ∷ 129 ∷ 170 ∷ 227 ∷ 129 ∷ 151 ∷ []

-- ---- the board

-- "  ９ ８ ７ ６ ５ ４ ３ ２ １"
abbrev pub files_tag : List ℕ
files_tag =
    32 ∷ 32 ∷ 239 ∷ 188 ∷ 153 ∷ 32 ∷ 239 ∷ 188 ∷ 152 ∷ 32 ∷ 239 ∷ 188 ∷ 151 ∷ 32 ∷ 239 ∷ 188 ∷ 150 ∷ 32 ∷ 239 ∷ 188 ∷ 149 ∷ 32 ∷ 239 ∷ 188 ∷ 148 ∷ 32 ∷ 239 ∷ 188 ∷ 147 ∷ 32 ∷ 239 ∷ 188 ∷ 146 ∷ 32 ∷ 239 ∷ 188 ∷ 145 ∷ []

-- +---------------------------+
abbrev pub rule_tag : List ℕ
rule_tag = 43 ∷ replicate 27 45 ++ (43 ∷ [])

-- " ・"
abbrev pub empty_tag : List ℕ
empty_tag = 32 ∷ 227 ∷ 131 ∷ 187 ∷ []

-- ---- move lines

-- 同
abbrev pub same_word : List ℕ
same_word = 229 ∷ 144 ∷ 140 ∷ []

-- 成
abbrev pub promotes : List ℕ
promotes = 230 ∷ 136 ∷ 144 ∷ []

-- 不成
abbrev pub declines : List ℕ
declines = 228 ∷ 184 ∷ 141 ∷ 230 ∷ 136 ∷ 144 ∷ []

-- 打
abbrev pub drops : List ℕ
drops = 230 ∷ 137 ∷ 147 ∷ []

-- ▲
abbrev pub black : List ℕ
black = 226 ∷ 150 ∷ 178 ∷ []

-- △
abbrev pub white : List ℕ
white = 226 ∷ 150 ∷ 179 ∷ []
