-- The count of a piece in hand, in kanji: 一 to 九十九.                                               (01, Reading rules: hands)
-- Assumes nothing: these are definitions.
use Rattle.std.specs.Prelude.{ℕ, ◌+◌, ◌*◌, ◌/◌, ◌%◌, List, [], ◌∷◌, ◌++◌, ltb, Option, Some, None}
use Rattle.lists.specs.Pick.{pick}
use Rattle.text.specs.Text.{on_place, tag_at}
use Rattle.spell.specs.Tables.{numerals}
use Rattle.spell.specs.Spell.{on_spelled, first_of, spelled}
use Rattle.text.specs.declared.Cursor.{Cursor}

-- 十
abbrev pub ten : List ℕ
ten = 229 ∷ 141 ∷ 129 ∷ []

-- The tens: 十 after a numeral or alone.                                                             (01, Reading rules: 十, 二十, 一十)
unfoldable pub tens_at : List ℕ → ℕ → Option (ℕ × Cursor)
tens_at s at =
    on_spelled (first_of numerals s at)
    (λ d c. on_place (tag_at ten s c.at) (λ e. Some (d * 10, e)) None)
    (on_place (tag_at ten s at) (λ e. Some (10, e)) None)

-- The count: tens and ones, or either alone.                                                         (01, Reading rules: hands)
unfoldable pub hand_count_at : List ℕ → ℕ → Option (ℕ × Cursor)
hand_count_at s at =
    on_spelled (tens_at s at)
    (λ t c. on_spelled (first_of numerals s c.at) (λ d e. Some (t + d, e)) (Some (t, c)))
    (first_of numerals s at)

-- How tens are written: no 一 before 十, and nothing for none.                                         (01, Writing)
unfoldable pub tens_text : ℕ → List ℕ
tens_text t = pick (ltb 0 t) (pick (ltb 1 t) (spelled numerals t) [] ++ ten) []

-- How a count is written. Above 99 it is not: the writer refuses it.                                   (01, Writing; refusal 8)
unfoldable pub count_text : ℕ → List ℕ
count_text n = pick (ltb 99 n) [] (tens_text (n / 10) ++ spelled numerals (n % 10))
