-- The rows of a table of spellings.
-- Assumes nothing: these are definitions.
use Rattle.std.specs.Prelude.{ℕ, List, [], ◌∷◌, Bool, true, false, length, take, drop, eqb, leb}
use Rattle.lists.specs.Pick.{pick}
use Rattle.spell.specs.Tables.{Spelling, spelling}
use Rattle.spell.specs.declared.Row.{Row}

-- The spelling of each row: its number, and as many bytes as it is long.
abbrev pub spellings : {w : ℕ} → List (Row w) → List Spelling
spellings [] = []
spellings (r ∷ rows) = spelling r.number (take r.length r.bytes) ∷ spellings rows

-- Every byte is 0.
abbrev pub all_zero : List ℕ → Bool
all_zero [] = true
all_zero (b ∷ t) = pick (eqb b 0) (all_zero t) false

-- A row has w bytes: those of its spelling, and zeros to the end.
abbrev pub fits : {w : ℕ} → Row w → Bool
fits {w} r = pick (eqb (length r.bytes) w) (pick (leb r.length w) (all_zero (drop r.length r.bytes)) false) false

-- Every row of a table is so.
abbrev pub all_fit : {w : ℕ} → List (Row w) → Bool
all_fit [] = true
all_fit (r ∷ rows) = pick (fits r) (all_fit rows) false
