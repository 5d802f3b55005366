-- An entry and its 20 bytes in a block.                                                              (01, The block: move entry)
-- Assumes nothing: these are definitions.
use Rattle.std.specs.Prelude.{ℕ, ◌+◌, ◌/◌, ◌%◌, List, [], ◌∷◌, ◌++◌, Bool, get_or, eqb, Option, Some, None}
use Rattle.lists.specs.Pick.{pick}
use Rattle.lent.specs.Bytes.{bytes16}
use Rattle.jkf.specs.Entries.{special_number, special_of, time_of}
use Rattle.jkf.specs.declared.Clock.{Clock}
use Rattle.jkf.specs.declared.Clock.TheVariants.{Hms, Ms}
use Rattle.jkf.specs.declared.Time.{Time}
use Rattle.jkf.specs.declared.Time.TheVariants.{Untimed, Timed}
use Rattle.jkf.specs.declared.Target.{Target}
use Rattle.jkf.specs.declared.Target.TheVariants.{Same, Square}
use Rattle.jkf.specs.declared.Move.{Move}
use Rattle.jkf.specs.declared.Entry.{Entry}
use Rattle.jkf.specs.declared.Entry.TheVariants.{Slot, Moved, End}

-- ---- marks                                                                                          (01, The block: marks)

-- 1 where the origin is known.
abbrev pub from_mark : Option (ℕ × ℕ) → ℕ
from_mark None = 0
from_mark (Some (x, y)) = 1

-- 2 for 同.
abbrev pub same_mark : Target → ℕ
same_mark Same = 2
same_mark (Square x y) = 0

-- The hour's mark where the clock has one.
abbrev pub hour_mark : ℕ → Clock → ℕ
hour_mark mark (Hms h m s) = mark
hour_mark mark (Ms m s) = 0

-- 4 for a time, and 8 and 16 for the hours of now and total.
abbrev pub time_mark : Time → ℕ
time_mark Untimed = 0
time_mark (Timed now total) = 4 + hour_mark 8 now + hour_mark 16 total

-- ---- fields; one that is not used is zero                                                           (01, The block: unused fields)

abbrev pub target_bytes : Target → List ℕ
target_bytes Same = 0 ∷ 0 ∷ []
target_bytes (Square x y) = x ∷ y ∷ []

abbrev pub origin_bytes : Option (ℕ × ℕ) → List ℕ
origin_bytes None = 0 ∷ 0 ∷ []
origin_bytes (Some (x, y)) = x ∷ y ∷ []

abbrev pub clock_bytes : Clock → List ℕ
clock_bytes (Hms h m s) = h ∷ m ∷ s ∷ []
clock_bytes (Ms m s) = 0 ∷ m ∷ s ∷ []

abbrev pub time_bytes : Time → List ℕ
time_bytes Untimed = 0 ∷ 0 ∷ 0 ∷ 0 ∷ 0 ∷ 0 ∷ []
time_bytes (Timed now total) = clock_bytes now ++ clock_bytes total

-- The bytes before the time: sort, colour or special's number, piece, promote, to, from, marks.
unfoldable pub entry_head : Entry → List ℕ
entry_head Slot = 0 ∷ 0 ∷ 0 ∷ 0 ∷ 0 ∷ 0 ∷ 0 ∷ 0 ∷ 0 ∷ []
entry_head (Moved m) =
    1 ∷ m.color ∷ m.piece ∷ m.promote ∷ []
    ++ target_bytes m.to
    ++ origin_bytes m.from
    ++ ((from_mark m.from + same_mark m.to + time_mark m.time) ∷ [])
entry_head (End s t) = 2 ∷ special_number s ∷ 0 ∷ 0 ∷ 0 ∷ 0 ∷ 0 ∷ 0 ∷ time_mark t ∷ []

-- The 20 bytes: with the number of the first comment and how many there are.                          (01, The block: move entry)
unfoldable pub entry_bytes : Entry → ℕ → ℕ → List ℕ
entry_bytes e first count = entry_head e ++ time_bytes (time_of e) ++ (0 ∷ []) ++ bytes16 first ++ bytes16 count

-- ---- the way back: what entry 20 bytes say. It is total; a block is sound only where the entry's bytes are those that were read.

-- A mark is set.
abbrev pub marked : ℕ → ℕ → Bool
marked mark marks = eqb (marks / mark % 2) 1

abbrev pub clock_of : Bool → ℕ → ℕ → ℕ → Clock
clock_of hour h m s = pick hour (Hms h m s) (Ms m s)

unfoldable pub time_in : List ℕ → Time
time_in l =
    pick (marked 4 (get_or l 8 0))
    (Timed
    (clock_of (marked 8 (get_or l 8 0)) (get_or l 9 0) (get_or l 10 0) (get_or l 11 0))
    (clock_of (marked 16 (get_or l 8 0)) (get_or l 12 0) (get_or l 13 0) (get_or l 14 0)))
    Untimed

unfoldable pub target_in : List ℕ → Target
target_in l = pick (marked 2 (get_or l 8 0)) Same (Square (get_or l 4 0) (get_or l 5 0))

unfoldable pub origin_in : List ℕ → Option (ℕ × ℕ)
origin_in l = pick (eqb (get_or l 8 0 % 2) 1) (Some (get_or l 6 0, get_or l 7 0)) None

unfoldable pub move_in : List ℕ → Move
move_in l =
    record {
      color = get_or l 1 0;
      piece = get_or l 2 0;
      promote = get_or l 3 0;
      to = target_in l;
      from = origin_in l;
      time = time_in l;
    }

-- What entry the bytes from here on say.
unfoldable pub entry_in : List ℕ → Entry
entry_in l =
    pick (eqb (get_or l 0 0) 0) Slot (pick (eqb (get_or l 0 0) 2) (End (special_of (get_or l 1 0)) (time_in l)) (Moved (move_in l)))
