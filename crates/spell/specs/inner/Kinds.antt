-- The kinds of two characters.
-- Assumes nothing: these are definitions.
use Rattle.std.specs.Prelude.{List, [], ◌∷◌}
use Rattle.spell.specs.Tables.{Spelling, spelling}

-- The kinds of two characters: 成香 成桂 成銀.
abbrev pub promoted_kinds : List Spelling
promoted_kinds =
    spelling 10 (230 ∷ 136 ∷ 144 ∷ 233 ∷ 166 ∷ 153 ∷ []) ∷  -- 成香
    spelling 11 (230 ∷ 136 ∷ 144 ∷ 230 ∷ 161 ∷ 130 ∷ []) ∷  -- 成桂
    spelling 12 (230 ∷ 136 ∷ 144 ∷ 233 ∷ 138 ∷ 128 ∷ []) ∷ []  -- 成銀
