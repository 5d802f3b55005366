-- What each mode says of a record. How it is said is the same in all modes.                            (01, Writing, and what is lost; 02, xi)
-- Assumes nothing: these are definitions.
use Rattle.std.specs.Prelude.{ℕ, ◌-◌, List, [], ◌∷◌, map, length, eqb, Option, Some, None}
use Rattle.lists.specs.Pick.{pick}
use Rattle.jkf.specs.declared.Clock.{Clock}
use Rattle.jkf.specs.declared.Clock.TheVariants.{Hms, Ms}
use Rattle.jkf.specs.declared.Time.{Time}
use Rattle.jkf.specs.declared.Time.TheVariants.{Untimed, Timed}
use Rattle.jkf.specs.declared.Move.{Move}
use Rattle.jkf.specs.declared.Entry.{Entry}
use Rattle.jkf.specs.declared.Entry.TheVariants.{Slot, Moved, End}
use Rattle.jkf.specs.Model.{Noted, Line, Record}
use Rattle.converter.specs.declared.Mode.{Mode}
use Rattle.converter.specs.declared.Mode.TheVariants.{Plain, Whole, Shared}

-- ---- where the modes differ

-- The plain text has no mark for 不成.
unfoldable pub said_mark : Mode → ℕ → ℕ
said_mark Plain promote = pick (eqb promote 1) 0 promote
said_mark Whole promote = promote
said_mark Shared promote = promote

abbrev pub hour : Clock → ℕ
hour (Hms h m s) = h
hour (Ms m s) = 0

abbrev pub minute : Clock → ℕ
minute (Hms h m s) = m
minute (Ms m s) = m

abbrev pub second : Clock → ℕ
second (Hms h m s) = s
second (Ms m s) = s

-- The plain text tells what an entry itself took without the hour.
unfoldable pub said_now : Mode → Clock → Clock
said_now Plain c = Ms (minute c) (second c)
said_now Whole c = c
said_now Shared c = c

-- And a total with one, which is 0 where there is none.
unfoldable pub said_total : Mode → Clock → Clock
said_total Plain c = Hms (hour c) (minute c) (second c)
said_total Whole c = c
said_total Shared c = c

-- An origin of (0,0), which is how 打 is read, as one that is not known, which is written 打.
unfoldable pub as_drop : Option (ℕ × ℕ) → Option (ℕ × ℕ)
as_drop None = None
as_drop (Some (x, y)) = pick (eqb x 0) (pick (eqb y 0) None (Some (x, y))) (Some (x, y))

-- The shared text has it so, since other programs take no (00).
unfoldable pub said_origin : Mode → Option (ℕ × ℕ) → Option (ℕ × ℕ)
said_origin Plain o = o
said_origin Whole o = o
said_origin Shared o = as_drop o

-- ---- of a record

unfoldable pub said_time : Mode → Time → Time
said_time mode Untimed = Untimed
said_time mode (Timed now total) = Timed (said_now mode now) (said_total mode total)

-- Of a move its mark, its origin and its time.
unfoldable pub said_move : Mode → Move → Move
said_move mode m =
    record { color = m.color; piece = m.piece; promote = said_mark mode m.promote; to = m.to; from = said_origin mode m.from; time = said_time mode m.time }

unfoldable pub said_entry : Mode → Entry → Entry
said_entry mode Slot = Slot
said_entry mode (Moved m) = Moved (said_move mode m)
said_entry mode (End s t) = End s (said_time mode t)

-- Comments are all said.
unfoldable pub said_noted : Mode → Noted → Noted
said_noted mode e = record { what = said_entry mode e.what; comments = e.comments }

-- So are a line's start, its parent and how many entries it has.
unfoldable pub said_line : Mode → Line → Line
said_line mode l = record { start = l.start; parent = l.parent; entries = map (said_noted mode) l.entries }

-- The variations before the first with start 0; that one and all after it are left out.
unfoldable pub shown : List Line → List Line
shown [] = []
shown (l ∷ ls) = let r = shown ls in pick (eqb l.start 0) [] (l ∷ r)

-- Line 0 and the variations that are shown. Those modes that lose nothing refuse where one would be left out.
unfoldable pub said_lines : Mode → List Line → List Line
said_lines mode [] = []
said_lines mode (l ∷ ls) = said_line mode l ∷ map (said_line mode) (shown ls)

-- How many lines are left out.
unfoldable pub left_out : List Line → ℕ
left_out [] = 0
left_out (l ∷ ls) = length ls - length (shown ls)

-- Header and position are said whole.
unfoldable pub said_record : Mode → Record → Record
said_record mode r = record { version = r.version; headers = r.headers; position = r.position; lines = said_lines mode r.lines }
