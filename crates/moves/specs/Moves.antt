-- Move lines, comments and skip lines.                                                              (01, Reading rules: move line, time, skip line)
-- Assumes nothing: these are definitions.
use Rattle.std.specs.Prelude.{ℕ, ◌-◌, ◌/◌, ◌%◌, List, [], ◌∷◌, Bool, true, get_or, eqb, Option, Some, None, Result, Ok, Err}
use Rattle.lists.specs.Pick.{pick}
use Rattle.text.specs.Text.{cursor, on_place, on_number, by_number, is_digit, stands_at, tag_at, break_at, tail_at, line_end_at, blanks_at, wide_space, digits_at}
use Rattle.text.specs.Utf8.{character_at}
use Rattle.text.specs.declared.Cursor.{Cursor}
use Rattle.text.specs.declared.FigureError.{FigureError}
use Rattle.spell.specs.Words.{same_word, promotes, declines, drops, black, white}
use Rattle.spell.specs.Spell.{on_spelled, first_of}
use Rattle.spell.specs.Tables.{kinds, specials, numerals, files}
use Rattle.jkf.specs.Entries.{special_of}
use Rattle.jkf.specs.declared.Clock.{Clock}
use Rattle.jkf.specs.declared.Clock.TheVariants.{Hms, Ms}
use Rattle.jkf.specs.declared.Time.{Time}
use Rattle.jkf.specs.declared.Time.TheVariants.{Untimed, Timed}
use Rattle.jkf.specs.declared.Target.{Target}
use Rattle.jkf.specs.declared.Target.TheVariants.{Same, Square}
use Rattle.jkf.specs.declared.Entry.{Entry}
use Rattle.jkf.specs.declared.Entry.TheVariants.{Slot, Moved, End}
use Rattle.moves.specs.declared.Mark.{Mark}
use Rattle.moves.specs.declared.Timing.{Timing}
use Rattle.moves.specs.declared.Remark.{Remark}
use Rattle.moves.specs.declared.MoveLine.{MoveLine}
use Rattle.text.specs.declared.FigureError.TheVariants.{Absent, TooLarge}

-- ---- words

-- Answers taken apart: what to do with their values, and what stands for all other cases.
abbrev pub on_aim : {A : Type 0} → Option (Target × Cursor) → (Target → Cursor → A) → A → A
on_aim (Some (t, c)) f d = f t c
on_aim None f d = d

abbrev pub on_source : {A : Type 0} → Result (Option (ℕ × ℕ) × Cursor) FigureError → (Option (ℕ × ℕ) → Cursor → A) → A → A
on_source (Ok (o, c)) f d = f o c
on_source (Err Absent) f d = d
on_source (Err TooLarge) f d = d

abbrev pub on_clocked : {A : Type 0} → Option (Clock × Cursor) → (Clock → Cursor → A) → A → A
on_clocked (Some (k, c)) f d = f k c
on_clocked None f d = d

abbrev pub on_what : {A : Type 0} → Option (Entry × Cursor) → (Entry → Cursor → A) → A → A
on_what (Some (e, c)) f d = f e c
on_what None f d = d

abbrev pub on_remark : {A : Type 0} → Option Remark → (Cursor → Cursor → Cursor → A) → A → A
on_remark (Some r) f d = f r.from r.to r.next
on_remark None f d = d

abbrev pub on_move_line : {A : Type 0} → Option MoveLine → (ℕ → Entry → Cursor → A) → A → A
on_move_line (Some r) f d = f r.number r.entry r.next
on_move_line None f d = d

abbrev pub mark : ℕ → Cursor → Mark
mark n c = record { promote = n; next = c }

abbrev pub timing : Time → Cursor → Timing
timing t c = record { time = t; next = c }

-- ---- a move

-- A file and a rank.
unfoldable pub square_at : List ℕ → ℕ → Option (Target × Cursor)
square_at s at = on_spelled (first_of files s at) (λ x c. on_spelled (first_of numerals s c.at) (λ y d. Some (Square x y, d)) None) None

-- 同 with one U+3000 or none, or a file and a rank.                                                   (the Rust's move_to)
unfoldable pub move_to_at : List ℕ → ℕ → Option (Target × Cursor)
move_to_at s at = on_place (tag_at same_word s at) (λ c. on_place (tag_at wide_space s c.at) (λ d. Some (Same, d)) (Some (Same, c))) (square_at s at)

-- 2 for 成, 1 for 不成, 0 for neither.
unfoldable pub promote_at : List ℕ → ℕ → Mark
promote_at s at = on_place (tag_at promotes s at) (λ c. mark 2 c) (on_place (tag_at declines s at) (λ c. mark 1 c) (mark 0 (cursor at)))

-- In brackets the tens and the ones of a number of at most 255; a number too large is told, whatever follows it.
unfoldable pub origin_at : List ℕ → ℕ → Result (Option (ℕ × ℕ) × Cursor) FigureError
origin_at s at =
    on_place (tag_at (40 ∷ []) s at)
    (λ c. by_number (digits_at 255 s c.at)
    (λ n d. on_place (tag_at (41 ∷ []) s d.at) (λ e. Ok (Some (n / 10, n % 10), e)) (Err Absent))
    (Err Absent)
    (Err TooLarge))
    (Err Absent)

-- 打, which is from (0,0), or an origin.                                                               (the Rust's move_from)
unfoldable pub move_from_at : List ℕ → ℕ → Result (Option (ℕ × ℕ) × Cursor) FigureError
move_from_at s at = on_place (tag_at drops s at) (λ c. Ok (Some (0, 0), c)) (origin_at s at)

-- Of a colour that the line's number will say, and of a time that is still to be read.
abbrev pub move_entry : Target → ℕ → ℕ → Option (ℕ × ℕ) → Entry
move_entry to piece promote from = Moved (record { color = 0; piece = piece; promote = promote; to = to; from = from; time = Untimed })

-- The kind, the mark and the origin, after the target.
unfoldable pub kind_to_origin_at : Target → List ℕ → ℕ → Option (Entry × Cursor)
kind_to_origin_at to s at =
    on_spelled (first_of kinds s at)
    (λ k c. on_source (move_from_at s (promote_at s c.at).next.at) (λ o d. Some (move_entry to k (promote_at s c.at).promote o, d)) None)
    None

-- Target, kind, mark, origin.                                                                        (the Rust's move_move)
unfoldable pub move_at : List ℕ → ℕ → Option (Entry × Cursor)
move_at s at = on_aim (move_to_at s at) (λ t c. kind_to_origin_at t s c.at) None

-- A special.                                                                                         (the Rust's move_special)
abbrev pub ending_at : List ℕ → ℕ → Option (Entry × Cursor)
ending_at s at = on_spelled (first_of specials s at) (λ n c. Some (End (special_of n) Untimed, c)) None

-- A special or a move.                                                                               (of the Rust's move_line)
unfoldable pub what_at : List ℕ → ℕ → Option (Entry × Cursor)
what_at s at = on_what (ending_at s at) (λ e c. Some (e, c)) (move_at s at)

-- ---- a time

abbrev pub colon : List ℕ
colon = 58 ∷ []

-- A number up to 255 and the colon after it; a number too large is told, whatever follows it.
unfoldable pub figure_at : List ℕ → ℕ → Result (ℕ × Cursor) FigureError
figure_at s at = by_number (digits_at 255 s at) (λ n c. on_place (tag_at colon s c.at) (λ e. Ok (n, e)) (Err Absent)) (Err Absent) (Err TooLarge)

-- h:m:s
unfoldable pub hms_at : List ℕ → ℕ → Option (Clock × Cursor)
hms_at s at =
    on_number (figure_at s at)
    (λ h c. on_number (figure_at s c.at) (λ m d. on_number (digits_at 255 s d.at) (λ n e. Some (Hms h m n, e)) None) None)
    None

-- m:s
unfoldable pub ms_at : List ℕ → ℕ → Option (Clock × Cursor)
ms_at s at = on_number (figure_at s at) (λ m c. on_number (digits_at 255 s c.at) (λ n d. Some (Ms m n, d)) None) None

-- h:m:s, or else m:s.                                                                                (the Rust's move_time_format)
unfoldable pub clock_at : List ℕ → ℕ → Option (Clock × Cursor)
clock_at s at = on_clocked (hms_at s at) (λ k c. Some (k, c)) (ms_at s at)

-- With blanks around it.
unfoldable pub spaced_at : List ℕ → ℕ → Option (Clock × Cursor)
spaced_at s at = on_clocked (clock_at s (blanks_at s at)) (λ k c. Some (k, cursor (blanks_at s c.at))) None

-- The two clocks in brackets, from the first on; where they cannot be read there is no time.          (the Rust's move_time)
unfoldable pub clocks_at : List ℕ → ℕ → Timing → Timing
clocks_at s at none =
    on_clocked (spaced_at s at)
    (λ now c. on_place (tag_at (47 ∷ []) s c.at)
    (λ d. on_clocked (spaced_at s d.at) (λ total e. on_place (tag_at (41 ∷ []) s e.at) (λ f. timing (Timed now total) f) none) none)
    none)
    none

unfoldable pub time_at : List ℕ → ℕ → Timing
time_at s at = on_place (tag_at (40 ∷ []) s at) (λ c. clocks_at s c.at (timing Untimed (cursor at))) (timing Untimed (cursor at))

-- ---- the line

-- Odd numbers are Black's.
abbrev pub color_of : ℕ → ℕ
color_of ply = 1 - ply % 2

-- An entry with its colour and its time.
unfoldable pub finished : ℕ → Time → Entry → Entry
finished color t Slot = Slot
finished color t (Moved m) = Moved (record { color = color; piece = m.piece; promote = m.promote; to = m.to; from = m.from; time = t })
finished color t (End x u) = End x t

-- A move line of number n, from its special or move on: blanks, the time if it can be read, the rest of the line.
abbrev pub played_line : ℕ → List ℕ → ℕ → Option MoveLine
played_line n s at =
    on_what (what_at s at)
    (λ e d. on_place (line_end_at s (time_at s (blanks_at s d.at)).next.at)
    (λ f. Some (record { number = n; entry = (finished (color_of n) (time_at s (blanks_at s d.at)).time e); next = f }))
    None)
    None

-- The number with blanks before it, blanks, and what is played.                                      (the Rust's move_line)
unfoldable pub move_line_at : List ℕ → ℕ → Option MoveLine
move_line_at s at =
    on_number (digits_at 18446744073709551615 s (blanks_at s at)) (λ n c. played_line n s (blanks_at s c.at)) None

-- The place past a move line.
unfoldable pub move_line_end_at : List ℕ → ℕ → Option Cursor
move_line_end_at s at = on_move_line (move_line_at s at) (λ n e c. Some c) None

-- ---- comments and skip lines

-- A text that begins at one place and has its tail and break from another on.
unfoldable pub remark_from : Cursor → List ℕ → ℕ → Option Remark
remark_from from s at = on_place (tail_at s at) (λ e. on_place (break_at s e.at) (λ n. Some (record { from = from; to = e; next = n })) None) None

-- A comment after &, which stays.
unfoldable pub kept_at : List ℕ → ℕ → Option Remark
kept_at s at = on_place (tag_at (38 ∷ []) s at) (λ c. remark_from (cursor at) s c.at) None

-- A comment after *, which is dropped, or after &.                                                   (the Rust's move_comment_line)
unfoldable pub comment_line_at : List ℕ → ℕ → Option Remark
comment_line_at s at = on_place (tag_at (42 ∷ []) s at) (λ c. remark_from c s c.at) (kept_at s at)

-- What begins no skip line: a space, a digit, *, ▲ or △.                                             (01, Reading rules: skip line)
unfoldable pub begins_no_skip : List ℕ → ℕ → Bool
begins_no_skip s at =
    pick (eqb (get_or s at 0) 32)
    true
    (pick (eqb (get_or s at 0) 42) true (pick (is_digit (get_or s at 0)) true (pick (stands_at black s at) true (stands_at white s at))))

-- Another character, tail, break. The character may be an LF.                                        (the Rust's not_move_line)
unfoldable pub skip_line_at : List ℕ → ℕ → Option Cursor
skip_line_at s at = pick (begins_no_skip s at) None (on_place (character_at s at) (λ c. line_end_at s c.at) None)

-- A * or a &.
unfoldable pub begins_comment : List ℕ → ℕ → Bool
begins_comment s at = pick (eqb (get_or s at 0) 42) true (eqb (get_or s at 0) 38)
