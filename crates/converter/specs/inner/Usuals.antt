-- The row of an entry of the usual form, and its line in the three pieces in which it is written.
-- Assumes nothing: these are definitions.
use Rattle.std.specs.Prelude.{ℕ, ◌+◌, ◌/◌, ◌%◌, ◌≤◌, ◌≡◌, List, [], ◌∷◌, ◌++◌, Bool, true, length, get_or, eqb, ltb, Some}
use Rattle.lists.specs.Pick.{pick}
use Rattle.lent.specs.Numbers.{padded}
use Rattle.spell.specs.Tables.{move_kinds}
use Rattle.spell.specs.Spell.{spelled}
use Rattle.block.specs.EntryBytes.{target_in, origin_in, move_in}
use Rattle.jkf.specs.declared.Clock.TheVariants.{Hms, Ms}
use Rattle.spell.specs.Words.{promotes}
use Rattle.converter.specs.declared.Mode.{Mode}
use Rattle.converter.specs.Said.{said_mark, said_origin}
use Rattle.converter.specs.Entries.{target_text, promote_text, origin_text, move_width, clock_text, time_padding}

-- ---- the row

-- A square of the board. Marks of 21 say an origin, a time with no hours and a total with hours; those of 23 say 同 besides.
pub record OnBoard (row : List ℕ) : Type 0 where
  pub marks : get_or row 8 0 ≡ 21
  pub file : (1 ≤ get_or row 4 0) × (get_or row 4 0 ≤ 9)
  pub rank : (1 ≤ get_or row 5 0) × (get_or row 5 0 ≤ 9)

-- 同, or a square.
abbrev pub SpelledTarget : List ℕ → Type 0
SpelledTarget row = (get_or row 8 0 ≡ 23 → ⊥) → OnBoard row

-- A kind of one character; or one of two, which is not promoted again.
pub record SpelledKind (row : List ℕ) : Type 0 where
  pub kind : 1 ≤ get_or row 2 0
  pub long : 10 ≤ get_or row 2 0 → (get_or row 2 0 ≤ 12) × (get_or row 3 0 ≡ 2 → ⊥)

-- An origin of two digits.
abbrev pub SpelledOrigin : List ℕ → Type 0
SpelledOrigin row = (get_or row 6 0 ≤ 9) × (get_or row 7 0 ≤ 9)

-- Numbers of a clock of at most two digits.
pub record SpelledClocks (row : List ℕ) : Type 0 where
  pub minute : get_or row 10 0 ≤ 99
  pub second : get_or row 11 0 ≤ 99
  pub hours : get_or row 12 0 ≤ 99
  pub minutes : get_or row 13 0 ≤ 99
  pub seconds : get_or row 14 0 ≤ 99

-- 成 behind the kind, or nothing.
abbrev pub promoted_text : List ℕ → List ℕ
promoted_text row = pick (eqb (get_or row 3 0) 2) promotes []

-- A move of this form.
pub record UsualRow (row : List ℕ) : Type 0 where
  pub whole : 15 ≤ length row
  pub sort : get_or row 0 0 ≡ 1
  pub target : SpelledTarget row
  pub name : SpelledKind row
  pub origin : SpelledOrigin row
  pub clocks : SpelledClocks row

-- A mode says it so: with 成 or without a mark, and with its origin in brackets.
pub record SaidSo (mode : Mode) (row : List ℕ) : Type 0 where
  pub mark : promote_text (said_mark mode (get_or row 3 0)) ≡ promoted_text row
  pub origin : said_origin mode (Some (get_or row 6 0, get_or row 7 0)) ≡ Some (get_or row 6 0, get_or row 7 0)

-- A kind that is written with two characters: 成香, 成桂, 成銀, or one with 成 behind it.
abbrev pub is_long : List ℕ → Bool
is_long row = pick (ltb 9 (get_or row 2 0)) true (eqb (get_or row 3 0) 2)

-- ---- its line

-- A digit of a number at a place, or a space where the number is smaller.
unfoldable pub spaced : ℕ → ℕ → ℕ
spaced v place = pick (ltb v place) 32 (48 + v / place % 10)

-- The ply, a space and the target.
unfoldable pub start_text : ℕ → List ℕ → List ℕ
start_text ply row = (padded 4 32 ply ++ (32 ∷ [])) ++ target_text (target_in row)

-- The kind, its promotion and the origin, padded.
unfoldable pub name_text : List ℕ → List ℕ
name_text row =
    ((spelled move_kinds (get_or row 2 0) ++ promoted_text row) ++ origin_text (origin_in row)) ++ time_padding (move_width (move_in row))

-- The time and LF.
unfoldable pub clocks_text : List ℕ → List ℕ
clocks_text row =
    (((40 ∷ []) ++ clock_text 32 47 (Ms (get_or row 10 0) (get_or row 11 0))) ++ clock_text 48 41 (Hms (get_or row 12 0) (get_or row 13 0) (get_or row 14 0))) ++ (10 ∷ [])

-- The three.
abbrev pub usual_line : ℕ → List ℕ → List ℕ
usual_line ply row = (start_text ply row ++ name_text row) ++ clocks_text row
