-- Moves and times in the form in which they are mostly written, `７六歩(77)` and `( m:ss/hh:mm:ss)`: what stands there.
-- Assumes nothing: these are definitions.
use Rattle.std.specs.Prelude.{ℕ, ◌+◌, ◌*◌, ◌-◌, ◌≤◌, ◌≡◌, List, ◌++◌, true, length, get_or, eqb, Some}
use Rattle.lists.specs.Pick.{pick}
use Rattle.text.specs.Text.{cursor, is_digit, stands_at}
use Rattle.spell.specs.Spell.{first_of, number_spelled}
use Rattle.spell.specs.inner.Codes.{three_at}
use Rattle.spell.specs.Tables.{kinds, numerals}
use Rattle.jkf.specs.declared.Target.{Target}
use Rattle.jkf.specs.declared.Target.TheVariants.{Same, Square}
use Rattle.jkf.specs.declared.Entry.{Entry}
use Rattle.moves.specs.Moves.{mark, move_entry, move_to_at, promote_at}
use Rattle.spell.specs.Words.{promotes}

-- Two digits at a place, and their number.
pub record Two (s : List ℕ) (at : ℕ) : Type 0 where
  pub tens : is_digit (get_or s at 0) ≡ true
  pub ones : is_digit (get_or s (at + 1) 0) ≡ true

abbrev pub two_digits : List ℕ → ℕ → ℕ
two_digits s at = (get_or s at 0 - 48) * 10 + (get_or s (at + 1) 0 - 48)

-- `( m:ss/`
pub record UsualNow (s : List ℕ) (at : ℕ) : Type 0 where
  pub opens : get_or s at 0 ≡ 40
  pub blank : get_or s (at + 1) 0 ≡ 32
  pub minute : is_digit (get_or s (at + 2) 0) ≡ true
  pub colon : get_or s (at + 3) 0 ≡ 58
  pub second : Two s (at + 4)
  pub slash : get_or s (at + 6) 0 ≡ 47

-- `hh:mm:ss)`
pub record UsualTotal (s : List ℕ) (at : ℕ) : Type 0 where
  pub hour : Two s at
  pub colon : get_or s (at + 2) 0 ≡ 58
  pub minute : Two s (at + 3)
  pub colon₂ : get_or s (at + 5) 0 ≡ 58
  pub second : Two s (at + 6)
  pub closes : get_or s (at + 8) 0 ≡ 41

-- One after the other, within the text.
pub record Usual (s : List ℕ) (at : ℕ) : Type 0 where
  pub room : at + 16 ≤ length s
  pub now : UsualNow s at
  pub total : UsualTotal s (at + 7)

-- ---- a move: target, kind, mark, and the origin in brackets

-- The target at a place: 同, or a full-width digit and a numeral.
unfoldable pub aim_of : List ℕ → ℕ → Target
aim_of s at = pick (eqb (get_or s at 0) 229) Same (Square (get_or s (at + 2) 0 - 144) (number_spelled numerals (three_at s (at + 3))))

-- The kind after it: 成 and the kind that was promoted, or a kind of one character.
unfoldable pub kind_of : List ℕ → ℕ → ℕ
kind_of s at = pick (stands_at promotes s (at + 6)) (number_spelled kinds (promotes ++ three_at s (at + 9))) (number_spelled kinds (three_at s (at + 6)))

-- The mark of a move of so many bytes: 13 leave room for none, and 成 before the kind is none.
unfoldable pub mark_of : List ℕ → ℕ → ℕ → ℕ
mark_of s at width = pick (eqb width 13) 0 (pick (stands_at promotes s (at + 6)) 0 2)

-- The whole: the origin ends with the move.
abbrev pub entry_of : List ℕ → ℕ → ℕ → Entry
entry_of s at width =
    move_entry (aim_of s at) (kind_of s at) (mark_of s at width) (Some (get_or s (at + width - 3) 0 - 48, get_or s (at + width - 2) 0 - 48))

-- Two digits in brackets.
pub record Bracketed (s : List ℕ) (at : ℕ) : Type 0 where
  pub opens : get_or s at 0 ≡ 40
  pub tens : is_digit (get_or s (at + 1) 0) ≡ true
  pub ones : is_digit (get_or s (at + 2) 0) ≡ true
  pub closes : get_or s (at + 3) 0 ≡ 41

-- A target of six bytes, whose digit is one of the full-width ones.
pub record UsualTarget (s : List ℕ) (at : ℕ) : Type 0 where
  pub aim : move_to_at s at ≡ Some (aim_of s at, cursor (at + 6))
  pub digit : (get_or s at 0 ≡ 229 → ⊥) → 144 ≤ get_or s (at + 2) 0

-- A kind, a mark and an origin after the six bytes of the target, to the end of the move.
pub record UsualKind (s : List ℕ) (at width : ℕ) : Type 0 where
  pub past : ℕ
  pub kind : first_of kinds s (at + 6) ≡ Some (kind_of s at, cursor past)
  pub promotion : promote_at s past ≡ mark (mark_of s at width) (cursor (at + (width - 4)))
  pub origin : Bracketed s (at + (width - 4))

-- One after the other, within the text.
pub record UsualMove (s : List ℕ) (at width : ℕ) : Type 0 where
  pub wide : 13 ≤ width
  pub room : at + width ≤ length s
  pub target : UsualTarget s at
  pub name : UsualKind s at width
