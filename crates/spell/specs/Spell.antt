-- What a table of spellings says: which of them stands at a place, and how a number is written.
-- Assumes nothing: these are definitions.
use Rattle.std.specs.Prelude.{ℕ, ◌+◌, ◌*◌, List, [], ◌∷◌, Bool, true, false, length, get_or, eqb, Option, Some, None}
use Rattle.lists.specs.Pick.{pick}
use Rattle.text.specs.Text.{cursor, stands_at, same}
use Rattle.text.specs.declared.Cursor.{Cursor}
use Rattle.spell.specs.Tables.{Spelling}

-- An answer taken apart: what to do with its values, and what stands for the other case.
abbrev pub on_spelled : {A : Type 0} → Option (ℕ × Cursor) → (ℕ → Cursor → A) → A → A
on_spelled (Some (n, c)) f d = f n c
on_spelled None f d = d

-- The first spelling of a table that stands at a place: its number, and the place past it.           (01, Reading rules)
unfoldable pub first_of : List Spelling → List ℕ → ℕ → Option (ℕ × Cursor)
first_of [] s at = None
first_of (e ∷ es) s at =
    let r = first_of es s at in pick (stands_at e.bytes s at) (Some (e.number, cursor (at + length e.bytes))) r

-- The number of the spelling that some bytes are, no more and no fewer; 0 where they are none.         (01, Reading rules)
unfoldable pub number_spelled : List Spelling → List ℕ → ℕ
number_spelled [] t = 0
number_spelled (e ∷ es) t = let r = number_spelled es t in pick (same e.bytes t) e.number r

-- A number is written by its first spelling in a table; one that is not in it is not written.        (01, Writing)
unfoldable pub spelled : List Spelling → ℕ → List ℕ
spelled [] n = []
spelled (e ∷ es) n = let r = spelled es n in pick (eqb e.number n) e.bytes r

-- A table has a number.
unfoldable pub has_number : List Spelling → ℕ → Bool
has_number [] n = false
has_number (e ∷ es) n = let r = has_number es n in pick (eqb e.number n) true r

-- Three bytes as one number.
abbrev pub code_of : ℕ → ℕ → ℕ → ℕ
code_of a b c = a * 65536 + b * 256 + c

-- The three bytes of a character, as one number.
abbrev pub code : List ℕ → ℕ
code t = code_of (get_or t 0 0) (get_or t 1 0) (get_or t 2 0)
