-- Texts of the cases: move lines, variations, and the whole with a main line whose last ply is 8.     (01, Positions on the board of cases)
-- Assumes nothing: these are definitions.
use Rattle.std.specs.Prelude.{ℕ, List, [], ◌∷◌, ◌++◌}
use Rattle.lent.specs.Numbers.{decimal}
use Rattle.spell.specs.Words.{same_word, drops}
use Rattle.block.specs.Encode.{concat}
use Rattle.block.specs.Decode.{run}

-- 歩
abbrev pub pawn : List ℕ
pawn = 230 ∷ 173 ∷ 169 ∷ []

-- A move line: n 同歩打.
unfoldable pub short_move : ℕ → List ℕ
short_move n = decimal n ++ (32 ∷ []) ++ same_word ++ pawn ++ drops ++ (10 ∷ [])

-- So many move lines, the first of them with number n.
unfoldable pub move_lines : ℕ → ℕ → List ℕ
move_lines n moves = concat short_move (run (λ k. k) n moves)

-- A move line with an origin: 1 同歩(n).
unfoldable pub origin_line : ℕ → List ℕ
origin_line n = (49 ∷ 32 ∷ []) ++ same_word ++ pawn ++ (40 ∷ []) ++ decimal n ++ (41 ∷ 10 ∷ [])

-- A variation: the ply that it starts at, and how many moves it has.
pub record Variation : Type 0 where
  pub start : ℕ
  pub moves : ℕ

-- One that starts at this ply and has so many moves.
abbrev pub from : ℕ → ℕ → Variation
from start moves = record { start = start; moves = moves }

-- 変化：n手 and its moves.
unfoldable pub variation_lines : Variation → List ℕ
variation_lines v =
    (229 ∷ 164 ∷ 137 ∷ 229 ∷ 140 ∷ 150 ∷ 239 ∷ 188 ∷ 154 ∷ []) ++ decimal v.start ++ (230 ∷ 137 ∷ 139 ∷ 10 ∷ []) ++ move_lines v.start v.moves

-- The main line, whose last ply is 8, and variations.
unfoldable pub text_of : List Variation → List ℕ
text_of vs = move_lines 1 8 ++ concat variation_lines vs

-- 九十九
abbrev pub ninety_nine : List ℕ
ninety_nine = 228 ∷ 185 ∷ 157 ∷ 229 ∷ 141 ∷ 129 ∷ 228 ∷ 185 ∷ 157 ∷ []

-- ---- 01's worked text and its listing

-- 手合割：平手
-- 手数--
--    1 ７六歩(77) ( 0:16/00:00:16)
--    2 ３四歩(33)
-- *second
--    3 中断
--
-- 変化：2手
--    2 ８四歩(83)
unfoldable pub worked_text : List ℕ
worked_text =
    230 ∷ 137 ∷ 139 ∷ 229 ∷ 144 ∷ 136 ∷ 229 ∷ 137 ∷ 178 ∷ 239 ∷ 188 ∷ 154 ∷ 229 ∷ 185 ∷ 179 ∷ 230 ∷ 137 ∷ 139 ∷ 10 ∷
    230 ∷ 137 ∷ 139 ∷ 230 ∷ 149 ∷ 176 ∷ 45 ∷ 45 ∷ 10 ∷
    32 ∷ 32 ∷ 32 ∷ 49 ∷ 32 ∷ 239 ∷ 188 ∷ 151 ∷ 229 ∷ 133 ∷ 173 ∷ 230 ∷ 173 ∷ 169 ∷ 40 ∷ 55 ∷ 55 ∷ 41 ∷ 32 ∷ 40 ∷ 32 ∷ 48 ∷ 58 ∷ 49 ∷ 54 ∷ 47 ∷ 48 ∷ 48 ∷ 58 ∷ 48 ∷ 48 ∷ 58 ∷ 49 ∷ 54 ∷ 41 ∷ 10 ∷
    32 ∷ 32 ∷ 32 ∷ 50 ∷ 32 ∷ 239 ∷ 188 ∷ 147 ∷ 229 ∷ 155 ∷ 155 ∷ 230 ∷ 173 ∷ 169 ∷ 40 ∷ 51 ∷ 51 ∷ 41 ∷ 10 ∷
    42 ∷ 115 ∷ 101 ∷ 99 ∷ 111 ∷ 110 ∷ 100 ∷ 10 ∷
    32 ∷ 32 ∷ 32 ∷ 51 ∷ 32 ∷ 228 ∷ 184 ∷ 173 ∷ 230 ∷ 150 ∷ 173 ∷ 10 ∷
    10 ∷
    229 ∷ 164 ∷ 137 ∷ 229 ∷ 140 ∷ 150 ∷ 239 ∷ 188 ∷ 154 ∷ 50 ∷ 230 ∷ 137 ∷ 139 ∷ 10 ∷
    32 ∷ 32 ∷ 32 ∷ 50 ∷ 32 ∷ 239 ∷ 188 ∷ 152 ∷ 229 ∷ 155 ∷ 155 ∷ 230 ∷ 173 ∷ 169 ∷ 40 ∷ 56 ∷ 51 ∷ 41 ∷ 10 ∷ []

-- read 137 block 254
-- line 0 start 0 moves 4 parent 0
-- line 1 start 2 moves 1 parent 0
unfoldable pub worked_listing : List ℕ
worked_listing =
    114 ∷ 101 ∷ 97 ∷ 100 ∷ 32 ∷ 49 ∷ 51 ∷ 55 ∷ 32 ∷ 98 ∷ 108 ∷ 111 ∷ 99 ∷ 107 ∷ 32 ∷ 50 ∷ 53 ∷ 52 ∷ 10 ∷
    108 ∷ 105 ∷ 110 ∷ 101 ∷ 32 ∷ 48 ∷ 32 ∷ 115 ∷ 116 ∷ 97 ∷ 114 ∷ 116 ∷ 32 ∷ 48 ∷ 32 ∷ 109 ∷ 111 ∷ 118 ∷ 101 ∷ 115 ∷ 32 ∷ 52 ∷ 32 ∷ 112 ∷ 97 ∷ 114 ∷ 101 ∷ 110 ∷ 116 ∷ 32 ∷ 48 ∷ 10 ∷
    108 ∷ 105 ∷ 110 ∷ 101 ∷ 32 ∷ 49 ∷ 32 ∷ 115 ∷ 116 ∷ 97 ∷ 114 ∷ 116 ∷ 32 ∷ 50 ∷ 32 ∷ 109 ∷ 111 ∷ 118 ∷ 101 ∷ 115 ∷ 32 ∷ 49 ∷ 32 ∷ 112 ∷ 97 ∷ 114 ∷ 101 ∷ 110 ∷ 116 ∷ 32 ∷ 48 ∷ 10 ∷ []
