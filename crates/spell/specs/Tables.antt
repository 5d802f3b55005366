-- The spellings: of each a number and its bytes.
-- Assumes nothing: these are definitions.
use Rattle.std.specs.Prelude.{ℕ, List, [], ◌∷◌, ◌++◌}

pub record Spelling : Type 0 where
  pub number : ℕ
  pub bytes : List ℕ

abbrev pub spelling : ℕ → List ℕ → Spelling
spelling n b = record { number = n; bytes = b }

-- 杏 圭 全: the promoted 香, 桂 and 銀 as a diagram has them.
abbrev pub short_kinds : List Spelling
short_kinds =
    spelling 10 (230 ∷ 157 ∷ 143 ∷ []) ∷  -- 杏
    spelling 11 (229 ∷ 156 ∷ 173 ∷ []) ∷  -- 圭
    spelling 12 (229 ∷ 133 ∷ 168 ∷ []) ∷ []  -- 全

-- The 14 kinds from 1 on, in the Rust's order, as a move is written:                               (01, The block: `piece_kind`)
-- 歩 香 桂 銀 金 角 飛 玉 と 成香 成桂 成銀 馬 龍; then 王 and 竜, which are only read.
abbrev pub move_kinds : List Spelling
move_kinds =
    spelling 1 (230 ∷ 173 ∷ 169 ∷ []) ∷  -- 歩
    spelling 2 (233 ∷ 166 ∷ 153 ∷ []) ∷  -- 香
    spelling 3 (230 ∷ 161 ∷ 130 ∷ []) ∷  -- 桂
    spelling 4 (233 ∷ 138 ∷ 128 ∷ []) ∷  -- 銀
    spelling 5 (233 ∷ 135 ∷ 145 ∷ []) ∷  -- 金
    spelling 6 (232 ∷ 167 ∷ 146 ∷ []) ∷  -- 角
    spelling 7 (233 ∷ 163 ∷ 155 ∷ []) ∷  -- 飛
    spelling 8 (231 ∷ 142 ∷ 137 ∷ []) ∷  -- 玉
    spelling 9 (227 ∷ 129 ∷ 168 ∷ []) ∷  -- と
    spelling 10 (230 ∷ 136 ∷ 144 ∷ 233 ∷ 166 ∷ 153 ∷ []) ∷  -- 成香
    spelling 11 (230 ∷ 136 ∷ 144 ∷ 230 ∷ 161 ∷ 130 ∷ []) ∷  -- 成桂
    spelling 12 (230 ∷ 136 ∷ 144 ∷ 233 ∷ 138 ∷ 128 ∷ []) ∷  -- 成銀
    spelling 13 (233 ∷ 166 ∷ 172 ∷ []) ∷  -- 馬
    spelling 14 (233 ∷ 190 ∷ 141 ∷ []) ∷  -- 龍
    spelling 8 (231 ∷ 142 ∷ 139 ∷ []) ∷  -- 王
    spelling 14 (231 ∷ 171 ∷ 156 ∷ []) ∷ []  -- 竜

-- The kinds in all their spellings, as they are read and as a diagram is written.
abbrev pub kinds : List Spelling
kinds = short_kinds ++ move_kinds

-- The endings that the reader knows, numbered from 0 in the Rust's order:
-- 投了 中断 千日手 切れ負け 反則負け 持将棋 入玉勝ち 詰み.                      (01, The block: special)
abbrev pub specials : List Spelling
specials =
    spelling 0 (230 ∷ 138 ∷ 149 ∷ 228 ∷ 186 ∷ 134 ∷ []) ∷  -- 投了
    spelling 1 (228 ∷ 184 ∷ 173 ∷ 230 ∷ 150 ∷ 173 ∷ []) ∷  -- 中断
    spelling 2 (229 ∷ 141 ∷ 131 ∷ 230 ∷ 151 ∷ 165 ∷ 230 ∷ 137 ∷ 139 ∷ []) ∷  -- 千日手
    spelling 3 (229 ∷ 136 ∷ 135 ∷ 227 ∷ 130 ∷ 140 ∷ 232 ∷ 178 ∷ 160 ∷ 227 ∷ 129 ∷ 145 ∷ []) ∷  -- 切れ負け
    spelling 4 (229 ∷ 143 ∷ 141 ∷ 229 ∷ 137 ∷ 135 ∷ 232 ∷ 178 ∷ 160 ∷ 227 ∷ 129 ∷ 145 ∷ []) ∷  -- 反則負け
    spelling 7 (230 ∷ 140 ∷ 129 ∷ 229 ∷ 176 ∷ 134 ∷ 230 ∷ 163 ∷ 139 ∷ []) ∷  -- 持将棋
    spelling 8 (229 ∷ 133 ∷ 165 ∷ 231 ∷ 142 ∷ 137 ∷ 229 ∷ 139 ∷ 157 ∷ 227 ∷ 129 ∷ 161 ∷ []) ∷  -- 入玉勝ち
    spelling 11 (232 ∷ 169 ∷ 176 ∷ 227 ∷ 129 ∷ 191 ∷ []) ∷ []  -- 詰み

-- The endings that the reader never gives are all written 中断.                                           (01, Writing)
abbrev pub other_specials : List Spelling
other_specials =
    spelling 5 (228 ∷ 184 ∷ 173 ∷ 230 ∷ 150 ∷ 173 ∷ []) ∷  -- 中断
    spelling 6 (228 ∷ 184 ∷ 173 ∷ 230 ∷ 150 ∷ 173 ∷ []) ∷  -- 中断
    spelling 9 (228 ∷ 184 ∷ 173 ∷ 230 ∷ 150 ∷ 173 ∷ []) ∷  -- 中断
    spelling 10 (228 ∷ 184 ∷ 173 ∷ 230 ∷ 150 ∷ 173 ∷ []) ∷  -- 中断
    spelling 12 (228 ∷ 184 ∷ 173 ∷ 230 ∷ 150 ∷ 173 ∷ []) ∷  -- 中断
    spelling 13 (228 ∷ 184 ∷ 173 ∷ 230 ∷ 150 ∷ 173 ∷ []) ∷ []  -- 中断

-- The endings as they are written.
abbrev pub written_specials : List Spelling
written_specials = specials ++ other_specials

-- The 17 presets from 0 on in the Rust's order:                                                     (01, Reading rules: preset)
-- 平手 香落ち 右香落ち 角落ち 飛車落ち 飛香落ち 二枚落ち 三枚落ち 四枚落ち 五枚落ち 左五枚落ち 六枚落ち 左七枚落ち 右七枚落ち 八枚落ち 十枚落ち その他.
abbrev pub presets : List Spelling
presets =
    spelling 0 (229 ∷ 185 ∷ 179 ∷ 230 ∷ 137 ∷ 139 ∷ []) ∷  -- 平手
    spelling 1 (233 ∷ 166 ∷ 153 ∷ 232 ∷ 144 ∷ 189 ∷ 227 ∷ 129 ∷ 161 ∷ []) ∷  -- 香落ち
    spelling 2 (229 ∷ 143 ∷ 179 ∷ 233 ∷ 166 ∷ 153 ∷ 232 ∷ 144 ∷ 189 ∷ 227 ∷ 129 ∷ 161 ∷ []) ∷  -- 右香落ち
    spelling 3 (232 ∷ 167 ∷ 146 ∷ 232 ∷ 144 ∷ 189 ∷ 227 ∷ 129 ∷ 161 ∷ []) ∷  -- 角落ち
    spelling 4 (233 ∷ 163 ∷ 155 ∷ 232 ∷ 187 ∷ 138 ∷ 232 ∷ 144 ∷ 189 ∷ 227 ∷ 129 ∷ 161 ∷ []) ∷  -- 飛車落ち
    spelling 5 (233 ∷ 163 ∷ 155 ∷ 233 ∷ 166 ∷ 153 ∷ 232 ∷ 144 ∷ 189 ∷ 227 ∷ 129 ∷ 161 ∷ []) ∷  -- 飛香落ち
    spelling 6 (228 ∷ 186 ∷ 140 ∷ 230 ∷ 158 ∷ 154 ∷ 232 ∷ 144 ∷ 189 ∷ 227 ∷ 129 ∷ 161 ∷ []) ∷  -- 二枚落ち
    spelling 7 (228 ∷ 184 ∷ 137 ∷ 230 ∷ 158 ∷ 154 ∷ 232 ∷ 144 ∷ 189 ∷ 227 ∷ 129 ∷ 161 ∷ []) ∷  -- 三枚落ち
    spelling 8 (229 ∷ 155 ∷ 155 ∷ 230 ∷ 158 ∷ 154 ∷ 232 ∷ 144 ∷ 189 ∷ 227 ∷ 129 ∷ 161 ∷ []) ∷  -- 四枚落ち
    spelling 9 (228 ∷ 186 ∷ 148 ∷ 230 ∷ 158 ∷ 154 ∷ 232 ∷ 144 ∷ 189 ∷ 227 ∷ 129 ∷ 161 ∷ []) ∷  -- 五枚落ち
    spelling 10 (229 ∷ 183 ∷ 166 ∷ 228 ∷ 186 ∷ 148 ∷ 230 ∷ 158 ∷ 154 ∷ 232 ∷ 144 ∷ 189 ∷ 227 ∷ 129 ∷ 161 ∷ []) ∷  -- 左五枚落ち
    spelling 11 (229 ∷ 133 ∷ 173 ∷ 230 ∷ 158 ∷ 154 ∷ 232 ∷ 144 ∷ 189 ∷ 227 ∷ 129 ∷ 161 ∷ []) ∷  -- 六枚落ち
    spelling 12 (229 ∷ 183 ∷ 166 ∷ 228 ∷ 184 ∷ 131 ∷ 230 ∷ 158 ∷ 154 ∷ 232 ∷ 144 ∷ 189 ∷ 227 ∷ 129 ∷ 161 ∷ []) ∷  -- 左七枚落ち
    spelling 13 (229 ∷ 143 ∷ 179 ∷ 228 ∷ 184 ∷ 131 ∷ 230 ∷ 158 ∷ 154 ∷ 232 ∷ 144 ∷ 189 ∷ 227 ∷ 129 ∷ 161 ∷ []) ∷  -- 右七枚落ち
    spelling 14 (229 ∷ 133 ∷ 171 ∷ 230 ∷ 158 ∷ 154 ∷ 232 ∷ 144 ∷ 189 ∷ 227 ∷ 129 ∷ 161 ∷ []) ∷  -- 八枚落ち
    spelling 15 (229 ∷ 141 ∷ 129 ∷ 230 ∷ 158 ∷ 154 ∷ 232 ∷ 144 ∷ 189 ∷ 227 ∷ 129 ∷ 161 ∷ []) ∷  -- 十枚落ち
    spelling 16 (227 ∷ 129 ∷ 157 ∷ 227 ∷ 129 ∷ 174 ∷ 228 ∷ 187 ∷ 150 ∷ []) ∷ []  -- その他

-- 先手 and 下手 are Black, 0; 後手 and 上手 are White, 1.                                             (01, Reading rules: turn)
abbrev pub sides : List Spelling
sides =
    spelling 0 (229 ∷ 133 ∷ 136 ∷ 230 ∷ 137 ∷ 139 ∷ []) ∷  -- 先手
    spelling 1 (229 ∷ 190 ∷ 140 ∷ 230 ∷ 137 ∷ 139 ∷ []) ∷  -- 後手
    spelling 0 (228 ∷ 184 ∷ 139 ∷ 230 ∷ 137 ∷ 139 ∷ []) ∷  -- 下手
    spelling 1 (228 ∷ 184 ∷ 138 ∷ 230 ∷ 137 ∷ 139 ∷ []) ∷ []  -- 上手

-- 一 to 九: ranks, and the digits of a hand count.                                                  (01, Reading rules: hands)
abbrev pub numerals : List Spelling
numerals =
    spelling 1 (228 ∷ 184 ∷ 128 ∷ []) ∷  -- 一
    spelling 2 (228 ∷ 186 ∷ 140 ∷ []) ∷  -- 二
    spelling 3 (228 ∷ 184 ∷ 137 ∷ []) ∷  -- 三
    spelling 4 (229 ∷ 155 ∷ 155 ∷ []) ∷  -- 四
    spelling 5 (228 ∷ 186 ∷ 148 ∷ []) ∷  -- 五
    spelling 6 (229 ∷ 133 ∷ 173 ∷ []) ∷  -- 六
    spelling 7 (228 ∷ 184 ∷ 131 ∷ []) ∷  -- 七
    spelling 8 (229 ∷ 133 ∷ 171 ∷ []) ∷  -- 八
    spelling 9 (228 ∷ 185 ∷ 157 ∷ []) ∷ []  -- 九

-- １ to ９: files.                                                                                  (01, Reading rules: move line)
abbrev pub files : List Spelling
files =
    spelling 1 (239 ∷ 188 ∷ 145 ∷ []) ∷  -- １
    spelling 2 (239 ∷ 188 ∷ 146 ∷ []) ∷  -- ２
    spelling 3 (239 ∷ 188 ∷ 147 ∷ []) ∷  -- ３
    spelling 4 (239 ∷ 188 ∷ 148 ∷ []) ∷  -- ４
    spelling 5 (239 ∷ 188 ∷ 149 ∷ []) ∷  -- ５
    spelling 6 (239 ∷ 188 ∷ 150 ∷ []) ∷  -- ６
    spelling 7 (239 ∷ 188 ∷ 151 ∷ []) ∷  -- ７
    spelling 8 (239 ∷ 188 ∷ 152 ∷ []) ∷  -- ８
    spelling 9 (239 ∷ 188 ∷ 153 ∷ []) ∷ []  -- ９
