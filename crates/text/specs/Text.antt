-- The smallest things that are read at a place of a text.                                          (01, Reading rules)
-- Every definition takes the whole text and a place, and answers a place of the whole text.
-- Assumes nothing: these are definitions.
use Rattle.std.specs.Prelude.{ℕ, ◌+◌, ◌*◌, ◌-◌, List, [], ◌∷◌, Bool, true, false, not, length, drop, get_or, eqb, ltb, leb, Option, Some, None, Result, Ok, Err}
use Rattle.lists.specs.Pick.{pick}
use Rattle.lists.specs.Repeat.{Step, more, stop, repeat_from}
use Rattle.text.specs.declared.Cursor.{Cursor}
use Rattle.text.specs.declared.FigureError.{FigureError}
use Rattle.text.specs.declared.FigureError.TheVariants.{Absent, TooLarge}

abbrev pub cursor : ℕ → Cursor
cursor at = record { at = at }

-- An answer taken apart: what to do with its values, and what stands for all other cases.
abbrev pub on_place : {A : Type 0} → Option Cursor → (Cursor → A) → A → A
on_place (Some c) f d = f c
on_place None f d = d

abbrev pub on_number : {A : Type 0} → Result (ℕ × Cursor) FigureError → (ℕ → Cursor → A) → A → A
on_number (Ok (n, c)) f d = f n c
on_number (Err Absent) f d = d
on_number (Err TooLarge) f d = d

-- The same where no number and one too large are told apart.                                        (02, request (iv))
abbrev pub by_number : {A : Type 0} → Result (ℕ × Cursor) FigureError → (ℕ → Cursor → A) → A → A → A
by_number (Ok (n, c)) f none large = f n c
by_number (Err Absent) f none large = none
by_number (Err TooLarge) f none large = large

-- ---- bytes of a class

-- A space or a tab.                                                                                (01, Reading rules: blanks)
abbrev pub is_blank : ℕ → Bool
is_blank b = pick (eqb b 32) true (eqb b 9)

-- Neither an LF nor a CR.                                                                          (01, Reading rules: tail)
abbrev pub is_text : ℕ → Bool
is_text b = pick (eqb b 10) false (not (eqb b 13))

abbrev pub is_digit : ℕ → Bool
is_digit b = pick (ltb b 48) false (leb b 57)

-- Past the bytes of a class at the start of a suffix that stands at place at.
unfoldable pub span_from : (ℕ → Bool) → List ℕ → ℕ → ℕ
span_from f [] at = at
span_from f (b ∷ l) at = let r = span_from f l (at + 1) in pick (f b) r at

-- Past the bytes of a class at a place of a text.
unfoldable pub span_at : (ℕ → Bool) → List ℕ → ℕ → ℕ
span_at f s at = span_from f (drop at s) at

-- ---- a byte string

-- The list starts with t.
unfoldable pub prefix_from : List ℕ → List ℕ → Bool
prefix_from [] l = true
prefix_from (b ∷ t) [] = false
prefix_from (b ∷ t) (x ∷ l) = let r = prefix_from t l in pick (eqb x b) r false

-- The bytes t stand at a place.
unfoldable pub stands_at : List ℕ → List ℕ → ℕ → Bool
stands_at t s at = prefix_from t (drop at s)

-- Past a given byte string.
unfoldable pub tag_at : List ℕ → List ℕ → ℕ → Option Cursor
tag_at t s at = pick (stands_at t s at) (Some (cursor (at + length t))) None

-- ---- two texts                                                                                      (01, The block: header entry)

-- One text before another by bytes.
unfoldable pub before : List ℕ → List ℕ → Bool
before a [] = false
before [] (y ∷ b) = true
before (x ∷ a) (y ∷ b) = let r = before a b in pick (ltb x y) true (pick (eqb x y) r false)

-- The same bytes.
unfoldable pub same : List ℕ → List ℕ → Bool
same [] [] = true
same [] (y ∷ b) = false
same (x ∷ a) [] = false
same (x ∷ a) (y ∷ b) = let r = same a b in pick (eqb x y) r false

-- ---- one character after another

-- One character more, as wide as the width function says; a width of 0 says that there is none.
abbrev pub width_step : (ℕ → ℕ) → ℕ → Unit {0} → Step (Unit {0})
width_step w at u = pick (eqb (w at) 0) stop (more (at + w at) u)

-- Past as many characters as there are.
unfoldable pub past_all : (List ℕ → ℕ → ℕ) → List ℕ → ℕ → ℕ
past_all w s at = (repeat_from (width_step (w s)) (length s) at tt).at

-- ---- 01's words, in its order

-- An LF, or a CR and an LF.                                                                        (01, Reading rules: break)
unfoldable pub break_at : List ℕ → ℕ → Option Cursor
break_at s at =
    pick (eqb (get_or s at 0) 10)
    (Some (cursor (at + 1)))
    (pick (eqb (get_or s at 0) 13) (pick (eqb (get_or s (at + 1) 0) 10) (Some (cursor (at + 2))) None) None)

abbrev pub text_at : List ℕ → ℕ → ℕ
text_at = span_at is_text

-- The end of a tail, where a CR must have an LF after it.
abbrev pub tail_end : List ℕ → ℕ → Option Cursor
tail_end s e = pick (eqb (get_or s e 0) 13) (pick (eqb (get_or s (e + 1) 0) 10) (Some (cursor e)) None) (Some (cursor e))

-- To the first CR or LF, or to the end of the text.                                                (01, Reading rules: tail)
unfoldable pub tail_at : List ℕ → ℕ → Option Cursor
tail_at s at = tail_end s (text_at s at)

-- A tail and its break.
unfoldable pub line_end_at : List ℕ → ℕ → Option Cursor
line_end_at s at = on_place (tail_at s at) (λ c. break_at s c.at) None

-- U+3000, the ideographic space.
abbrev pub wide_space : List ℕ
wide_space = 227 ∷ 128 ∷ 128 ∷ []

-- How wide the padding character at a place is; 0 where there is none.
unfoldable pub pad_width : List ℕ → ℕ → ℕ
pad_width s at = pick (eqb (get_or s at 0) 32) 1 (pick (stands_at wide_space s at) 3 0)

-- Spaces and U+3000.                                                                               (01, Reading rules: padding)
abbrev pub padding_at : List ℕ → ℕ → ℕ
padding_at = past_all pad_width

-- Spaces and tabs.                                                                                 (01, Reading rules: blanks)
abbrev pub blanks_at : List ℕ → ℕ → ℕ
blanks_at = span_at is_blank

-- ---- numbers

-- The number that the digits at the start of a suffix make, after those that made n.
unfoldable pub number_from : List ℕ → ℕ → ℕ
number_from [] n = n
number_from (b ∷ l) n = let r = number_from l (n * 10 + (b - 48)) in pick (is_digit b) r n

unfoldable pub number_at : List ℕ → ℕ → ℕ → ℕ
number_at s at n = number_from (drop at s) n

-- The digits from place at to place e make the number n: none, too large a number, or a value.
abbrev pub number_is : ℕ → ℕ → ℕ → ℕ → Result (ℕ × Cursor) FigureError
number_is largest at e n = pick (eqb e at) (Err Absent) (pick (leb n largest) (Ok (n, cursor e)) (Err TooLarge))

-- One or more digits that make a number up to the largest allowed: 2^64 - 1 for a ply, 255 for a time or an origin.
-- (01, Reading rules: move line, time)
unfoldable pub digits_at : ℕ → List ℕ → ℕ → Result (ℕ × Cursor) FigureError
digits_at largest s at = number_is largest at (span_at is_digit s at) (number_at s at 0)

-- ---- keys

-- ：
abbrev pub wide_colon : List ℕ
wide_colon = 239 ∷ 188 ∷ 154 ∷ []

-- What ends a key: ：, a CR or an LF, or the end of the text.                                         (01, Reading rules: key and value)
abbrev pub ends_key : List ℕ → Bool
ends_key [] = true
ends_key (b ∷ l) = pick (is_text b) (prefix_from wide_colon (b ∷ l)) true

unfoldable pub key_from : List ℕ → List ℕ
key_from [] = []
key_from (b ∷ l) = let r = b ∷ key_from l in pick (ends_key (b ∷ l)) [] r

-- The key that begins at a place.
unfoldable pub key_at : List ℕ → ℕ → List ℕ
key_at s at = key_from (drop at s)
