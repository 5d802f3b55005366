-- The entries of a line as they are written: all that is said of them here; what is said of an entry depends on the mode (Said.antt).
-- (01, Writing; Numbers of refusal: width)
-- Assumes nothing: these are definitions.
use Rattle.std.specs.Prelude.{ℕ, ◌+◌, ◌*◌, ◌-◌, ◌/◌, List, [], ◌∷◌, ◌++◌, Bool, true, false, length, get_or, replicate, eqb, leb, Option, Some, None}
use Rattle.lists.specs.Pick.{pick}
use Rattle.lent.specs.Numbers.{decimal, padded}
use Rattle.text.specs.Text.{wide_space, same}
use Rattle.spell.specs.Tables.{move_kinds, specials, written_specials, numerals, files}
use Rattle.spell.specs.Spell.{spelled}
use Rattle.jkf.specs.Entries.{special_number, time_of}
use Rattle.jkf.specs.declared.Special.{Special}
use Rattle.jkf.specs.declared.Clock.{Clock}
use Rattle.jkf.specs.declared.Clock.TheVariants.{Hms, Ms}
use Rattle.jkf.specs.declared.Time.{Time}
use Rattle.jkf.specs.declared.Time.TheVariants.{Untimed, Timed}
use Rattle.jkf.specs.declared.Target.{Target}
use Rattle.jkf.specs.declared.Target.TheVariants.{Same, Square}
use Rattle.jkf.specs.declared.Move.{Move}
use Rattle.jkf.specs.declared.Entry.{Entry}
use Rattle.jkf.specs.declared.Entry.TheVariants.{Slot, Moved, End}
use Rattle.jkf.specs.Model.{Noted}
use Rattle.block.specs.Encode.{concat}
use Rattle.spell.specs.Words.{same_word, promotes, declines, drops}

-- ---- a move

-- 同 and U+3000, or a file and a rank.
unfoldable pub target_text : Target → List ℕ
target_text Same = same_word ++ wide_space
target_text (Square x y) = spelled files x ++ spelled numerals y

-- 成 or 不成, or neither.                                                                             (01, The block: promote; 02, xi)
unfoldable pub promote_text : ℕ → List ℕ
promote_text promote = pick (eqb promote 2) promotes (pick (eqb promote 1) declines [])

-- Two numbers in brackets, or 打 where the origin is not known.
unfoldable pub origin_text : Option (ℕ × ℕ) → List ℕ
origin_text None = drops
origin_text (Some (x, y)) = (((40 ∷ []) ++ decimal x) ++ decimal y) ++ (41 ∷ [])

unfoldable pub move_text : Move → List ℕ
move_text m = ((target_text m.to ++ spelled move_kinds m.piece) ++ promote_text m.promote) ++ origin_text m.from

-- ---- widths                                                                                         (01, Numbers of refusal: width)

-- Two for each character of the kind: three kinds have two characters.
abbrev pub kind_width : ℕ → ℕ
kind_width kind = pick (leb 10 kind) (pick (leb kind 12) 4 2) 2

-- 不成 counts nothing.                                                                                (02, xi)
abbrev pub promote_width : ℕ → ℕ
promote_width promote = pick (eqb promote 2) 2 0

-- Two digits between brackets, or the one character 打.
abbrev pub origin_width : Option (ℕ × ℕ) → ℕ
origin_width None = 2
origin_width (Some (x, y)) = 4

-- 4 for the place.
unfoldable pub move_width : Move → ℕ
move_width m = 4 + kind_width m.piece + promote_width m.promote + origin_width m.from

unfoldable pub special_text : Special → List ℕ
special_text s = spelled written_specials (special_number s)

-- Two for each character, but nothing for 中断.
unfoldable pub special_width : Special → ℕ
special_width s = pick (same (special_text s) (spelled specials 1)) 0 (2 * (length (special_text s) / 3))

-- ---- a time

-- A number to two places, and the character after it.
abbrev pub figure_text : ℕ → ℕ → ℕ → List ℕ
figure_text fill after v = padded 2 fill v ++ (after ∷ [])

-- A clock with its hour or without: the first figure is filled up by a given character, the others by zeros, and a character follows the last.
-- (02, xi)
unfoldable pub clock_text : ℕ → ℕ → Clock → List ℕ
clock_text fill after (Hms h m s) = (figure_text fill 58 h ++ figure_text 48 58 m) ++ figure_text 48 after s
clock_text fill after (Ms m s) = figure_text fill 58 m ++ figure_text 48 after s

-- Padded by 13 less the width of what stands before it.
abbrev pub time_padding : ℕ → List ℕ
time_padding width = replicate (13 - width) 32

-- (, what the entry took, /, the total, ).
unfoldable pub time_text : ℕ → Time → List ℕ
time_text width Untimed = []
time_text width (Timed now total) = ((time_padding width ++ (40 ∷ [])) ++ clock_text 32 47 now) ++ clock_text 48 41 total

-- ---- an entry

unfoldable pub play_text : Entry → List ℕ
play_text Slot = []
play_text (Moved m) = move_text m
play_text (End s t) = special_text s

unfoldable pub width_of : Entry → ℕ
width_of Slot = 0
width_of (Moved m) = move_width m
width_of (End s t) = special_width s

-- The ply to four places, a space, the move or ending, its time, LF.
unfoldable pub entry_line : ℕ → Entry → List ℕ
entry_line ply e = (((padded 4 32 ply ++ (32 ∷ [])) ++ play_text e) ++ time_text (width_of e) (time_of e)) ++ (10 ∷ [])

-- * before a comment, unless it begins with &.
unfoldable pub star_text : List ℕ → List ℕ
star_text c = pick (eqb (get_or c 0 0) 38) [] (42 ∷ [])

-- A comment and LF.
unfoldable pub remark_text : List ℕ → List ℕ
remark_text c = (star_text c ++ c) ++ (10 ∷ [])

unfoldable pub remarks_text : List (List ℕ) → List ℕ
remarks_text cs = concat remark_text cs

-- An entry's line and its comments.
unfoldable pub noted_text : ℕ → Noted → List ℕ
noted_text ply e = entry_line ply e.what ++ remarks_text e.comments

-- Entries from a ply on.                                                                              (the Rust's write_move_lines)
unfoldable pub entries_text : ℕ → List Noted → List ℕ
entries_text ply [] = []
entries_text ply (e ∷ es) = noted_text ply e ++ entries_text (ply + 1) es

-- ---- what cannot be written                                                                         (01, Numbers of refusal: 9)

abbrev pub within : ℕ → Bool
within x = pick (leb 1 x) (leb x 9) false

-- A file and a rank of 1 to 9, or 同.
abbrev pub target_on_board : Target → Bool
target_on_board Same = true
target_on_board (Square x y) = pick (within x) (within y) false

-- There is room for the padding before a time: the width is at most 13.
abbrev pub time_has_room : ℕ → Time → Bool
time_has_room width Untimed = true
time_has_room width (Timed now total) = leb width 13

unfoldable pub can_write : Entry → Bool
can_write Slot = true
can_write (Moved m) = pick (target_on_board m.to) (time_has_room (move_width m) m.time) false
can_write (End s t) = true
