-- Well-formed UTF-8, by table 3-7 of the Unicode standard.                                         (01, Numbers of refusal: 2)
-- Assumes nothing: these are definitions.
use Rattle.std.specs.Prelude.{ℕ, ◌+◌, List, Bool, false, length, get_or, eqb, ltb, Option, Some, None}
use Rattle.lists.specs.Pick.{pick}
use Rattle.text.specs.Text.{cursor, past_all}
use Rattle.text.specs.declared.Cursor.{Cursor}

-- How many bytes a character that starts with b has; 0 where none does. C0, C1 and F5 to FF start none.
unfoldable pub size_of : ℕ → ℕ
size_of b = pick (ltb b 128) 1 (pick (ltb b 194) 0 (pick (ltb b 224) 2 (pick (ltb b 240) 3 (pick (ltb b 245) 4 0))))

-- The second byte is from this one on: after E0 and F0 a lower one would be an overlong form.
unfoldable pub lowest_of : ℕ → ℕ
lowest_of b = pick (eqb b 224) 160 (pick (eqb b 240) 144 128)

-- The second byte is below this one: after ED a higher one would be a surrogate, after F4 a number above U+10FFFF.
unfoldable pub highest_of : ℕ → ℕ
highest_of b = pick (eqb b 237) 160 (pick (eqb b 244) 144 192)

unfoldable pub second_of : ℕ → ℕ → Bool
second_of b d = pick (ltb d (lowest_of b)) false (ltb d (highest_of b))

-- A third or fourth byte.
unfoldable pub is_next : ℕ → Bool
is_next d = pick (ltb d 128) false (ltb d 192)

-- The width of a character of n bytes that starts at a place; 0 where it is not one.
abbrev pub size_if_formed : ℕ → List ℕ → ℕ → ℕ
size_if_formed n s at =
    pick (ltb n 2)
    n
    (pick (second_of (get_or s at 0) (get_or s (at + 1) 0))
    (pick (eqb n 2)
    2
    (pick (is_next (get_or s (at + 2) 0)) (pick (eqb n 3) 3 (pick (is_next (get_or s (at + 3) 0)) 4 0)) 0))
    0)

unfoldable pub char_width : List ℕ → ℕ → ℕ
char_width s at = pick (ltb at (length s)) (size_if_formed (size_of (get_or s at 0)) s at) 0

-- How many bytes are well formed before the first fault.                                           (01, Numbers of refusal: 2)
abbrev pub well_formed_bytes : List ℕ → ℕ
well_formed_bytes s = past_all char_width s 0

-- Past one character.                                                                              (01, Reading rules: skip line)
unfoldable pub character_at : List ℕ → ℕ → Option Cursor
character_at s at = pick (eqb (char_width s at) 0) None (Some (cursor (at + char_width s at)))
