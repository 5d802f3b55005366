-- Characters of three bytes as numbers, and tables of such characters, by which they are found and written at once.
-- Assumes nothing: these are definitions.
use Rattle.std.specs.Prelude.{ℕ, ◌+◌, ◌/◌, ◌%◌, ◌<◌, ◌≡◌, List, [], ◌∷◌, Bool, true, false, length, get_or, eqb, ltb}
use Rattle.lists.specs.Pick.{pick}
use Rattle.spell.specs.Tables.{Spelling}
use Rattle.spell.specs.Spell.{code_of, code}

-- Every number is a byte that is not 0.
abbrev pub all_bytes : List ℕ → Bool
all_bytes [] = true
all_bytes (b ∷ t) = pick (ltb 0 b) (pick (ltb b 256) (all_bytes t) false) false

abbrev pub bytes_of : ℕ → List ℕ
bytes_of x = x / 65536 % 256 ∷ x / 256 % 256 ∷ x % 256 ∷ []

abbrev pub codes : List Spelling → List ℕ
codes [] = []
codes (e ∷ es) = code e.bytes ∷ codes es

-- The three bytes at a place, 0 past the end of a text.
abbrev pub three_at : List ℕ → ℕ → List ℕ
three_at s at = get_or s at 0 ∷ get_or s (at + 1) 0 ∷ get_or s (at + 2) 0 ∷ []

-- The three bytes at a place, as one number.
unfoldable pub code_at : List ℕ → ℕ → ℕ
code_at s at = code_of (get_or s at 0) (get_or s (at + 1) 0) (get_or s (at + 2) 0)

-- The codes of a table of digits: characters of three bytes, none of them 0, that are numbered from 1 on.
abbrev pub is_digit_table : ℕ → List Spelling → Bool
is_digit_table i [] = true
is_digit_table i (e ∷ es) =
    pick (eqb e.number i)
    (pick (eqb (length e.bytes) 3) (pick (all_bytes e.bytes) (is_digit_table (i + 1) es) false) false)
    false

pub record Digits (es : List Spelling) (ks : List ℕ) : Type 0 where
  pub whole : ks ≡ codes es
  pub fits : is_digit_table 1 es ≡ true
  pub few : length ks < 256

abbrev pub IsDigits : List ℕ → Type 0
IsDigits ks = (es : List Spelling) × Digits es ks
