-- The start of a record, the path to an entry and the play along it.                                  (02, request (i))
-- Assumes nothing: these are definitions.
use Rattle.std.specs.Prelude.{ℕ, zero, suc, ◌+◌, ◌-◌, List, [], ◌∷◌, ◌++◌, Bool, true, length, drop, replicate, eqb, ltb, Option, Some, None}
use Rattle.lists.specs.Pick.{pick}
use Rattle.block.specs.EntryBytes.{entry_in}
use Rattle.jkf.specs.Answers.{figures, Outcome, refuse}
use Rattle.block.specs.PositionBytes.{position_bytes, position_in}
use Rattle.jkf.specs.declared.Entry.{Entry}
use Rattle.jkf.specs.declared.Entry.TheVariants.{Slot, Moved, End}
use Rattle.jkf.specs.declared.Position.{Position}
use Rattle.block.specs.Decode.{run, lines_in, move_place, start_of, first_entry, entry_count, parent_of}
use Rattle.block.specs.Sound.{soundb}
use Rattle.positions.specs.declared.Stepping.{Stepping}
use Rattle.positions.specs.declared.Course.{Course}
use Rattle.jkf.specs.declared.Answer.{Answer}
use Rattle.jkf.specs.declared.Answer.TheVariants.{Done, BufferShort, NotSound, NoSuchPart, NoStart, NoSuchEntry, PlayStopped}
use Rattle.positions.specs.declared.Trail.{Trail}
use Rattle.positions.specs.declared.After.{After}
use Rattle.positions.specs.Steps.{stepped}
use Rattle.positions.specs.declared.Hindrance.{Hindrance}

-- ---- the start

-- 平手: file 1 first, in each rank 1 first.
abbrev pub hirate_cells : List ℕ
hirate_cells =
    (18 ∷ 0 ∷ 17 ∷ 0 ∷ 0 ∷ 0 ∷ 1 ∷ 0 ∷ 2 ∷ []) ++
    (19 ∷ 22 ∷ 17 ∷ 0 ∷ 0 ∷ 0 ∷ 1 ∷ 7 ∷ 3 ∷ []) ++
    (20 ∷ 0 ∷ 17 ∷ 0 ∷ 0 ∷ 0 ∷ 1 ∷ 0 ∷ 4 ∷ []) ++
    (21 ∷ 0 ∷ 17 ∷ 0 ∷ 0 ∷ 0 ∷ 1 ∷ 0 ∷ 5 ∷ []) ++
    (24 ∷ 0 ∷ 17 ∷ 0 ∷ 0 ∷ 0 ∷ 1 ∷ 0 ∷ 8 ∷ []) ++
    (21 ∷ 0 ∷ 17 ∷ 0 ∷ 0 ∷ 0 ∷ 1 ∷ 0 ∷ 5 ∷ []) ++
    (20 ∷ 0 ∷ 17 ∷ 0 ∷ 0 ∷ 0 ∷ 1 ∷ 0 ∷ 4 ∷ []) ++
    (19 ∷ 23 ∷ 17 ∷ 0 ∷ 0 ∷ 0 ∷ 1 ∷ 6 ∷ 3 ∷ []) ++
    (18 ∷ 0 ∷ 17 ∷ 0 ∷ 0 ∷ 0 ∷ 1 ∷ 0 ∷ 2 ∷ [])

-- 平手, Black to move, as a diagram.                                                                    (02, request (i): "plays a line from 平手")
unfoldable pub hirate : Position
hirate = record { preset = 16; board = 1; turn = 0; cells = hirate_cells; hands = replicate 14 0 }

-- All zero, which goes with a refusal.
unfoldable pub no_position : Position
no_position = record { preset = 0; board = 0; turn = 0; cells = replicate 81 0; hands = replicate 14 0 }

-- The record's own diagram, else 平手.
unfoldable pub start_on : Position → Position
start_on p = pick (eqb p.board 0) hirate p

-- A course of play: what stopped it, if anything; the line and entry of its last move or of the one that stopped it; the place of the last landing; the position.
abbrev pub course : Option Hindrance → ℕ → ℕ → ℕ → Position → Course
course how line entry last p = record { how = how; line = line; entry = entry; last = last; position = p }

-- Before any move: there is no landing yet, which is place 81.
abbrev pub no_trail : Trail
no_trail = record { how = None; line = 0; entry = 0; last = 81 }

-- All of a course but the position, and the way back.
abbrev pub trail_of : Course → Trail
trail_of c = record { how = c.how; line = c.line; entry = c.entry; last = c.last }

abbrev pub course_of : Trail → Position → Course
course_of l p = course l.how l.line l.entry l.last p

abbrev pub at_start : Position → Course
at_start p = course_of no_trail p

-- ---- the path

-- An entry of a line.
pub record EntryPlace : Type 0 where
  pub line : ℕ
  pub entry : ℕ

abbrev pub entry_place : ℕ → ℕ → EntryPlace
entry_place k i = record { line = k; entry = i }

-- The entry of its parent that a line hangs on.
abbrev pub hang_entry : List ℕ → ℕ → ℕ
hang_entry b k = start_of b k - start_of b (parent_of b k)

-- Through the first n entries of line k: those of its parents before the entry that each hangs on, then its own. A parent is before its line,
-- so as many lines as k and one more are enough.                                                      (02, request (i): "a variation's moves replacing its parent's")
unfoldable pub path_in : List ℕ → ℕ → ℕ → ℕ → List EntryPlace
path_in b zero k n = []
path_in b (suc f) k n =
    let r = path_in b f (parent_of b k) (hang_entry b k) in
    pick (ltb (parent_of b k) k) r [] ++ run (entry_place k) 0 n

abbrev pub path_to : List ℕ → ℕ → ℕ → List EntryPlace
path_to b k n = path_in b (suc k) k n

-- ---- the play

-- What a step makes of a play that goes on.
abbrev pub step_on : Stepping → ℕ → ℕ → Course
step_on s k i = course s.how k i s.last s.position

-- A play that has stopped stays.
abbrev pub on_goes : Option Hindrance → Course → Course → Course
on_goes None w v = v
on_goes (Some r) w v = w

-- Slots and specials are passed over.
abbrev pub entry_on : Entry → ℕ → ℕ → Course → Course
entry_on Slot k i w = w
entry_on (Moved m) k i w = step_on (stepped w.position w.last m) k i
entry_on (End s t) k i w = w

-- One entry of a line played.
unfoldable pub play_one : List ℕ → ℕ → ℕ → Course → Course
play_one b k i w = on_goes w.how w (entry_on (entry_in (drop (move_place b (first_entry b k + i)) b)) k i w)

-- The entries of a path, one after another.
unfoldable pub play_all : List ℕ → List EntryPlace → Course → Course
play_all b [] w = w
play_all b (s ∷ l) w = play_all b l (play_one b s.line s.entry w)

-- ---- the answer                                                                                     (02, request (i): Refusals)

-- Where the play goes to the entry: 100 bytes, the side to move, and the position; else the line and entry where it stopped.
abbrev pub answer_by : Option Hindrance → Course → After
answer_by None c = record { answer = Done 100 c.position.turn; trail = trail_of c; position = c.position }
answer_by (Some r) c = record { answer = PlayStopped c.line c.entry; trail = trail_of c; position = no_position }

unfoldable pub course_answer : Course → After
course_answer c = answer_by c.how c

-- A refusal before any move is played.
abbrev pub not_played : Answer → After
not_played a = record { answer = a; trail = no_trail; position = no_position }

-- Where there is a start and the entry: the play along the path to it.
abbrev pub at_entry : List ℕ → ℕ → ℕ → After
at_entry b k e =
    let r = course_answer (play_all b (path_to b k (e + 1)) (at_start (start_on (position_in (drop 28 b))))) in
    pick (ltb e (entry_count b k)) r (not_played (NoSuchEntry k e))

-- A diagram, or 平手 without one.
unfoldable pub has_start : Position → Bool
has_start p = pick (eqb p.board 0) (eqb p.preset 0) true

-- 7, 10, 15, 16, 17, in this order.
unfoldable pub position_after : List ℕ → ℕ → ℕ → After
position_after b k e =
    pick (soundb b)
    (pick (ltb k (lines_in b))
    (pick (has_start (position_in (drop 28 b))) (at_entry b k e) (not_played (NoStart (position_in (drop 28 b)).preset)))
    (not_played (NoSuchPart k)))
    (not_played NotSound)

-- ---- into a lent buffer                                                                              (01, The block: 100 bytes)

-- The 100 bytes of the position at the front, and nothing past them changes; 5 comes last.
unfoldable pub position_stored : After → List ℕ → Outcome
position_stored a o =
    pick (eqb (figures a.answer).number 0)
    (pick (ltb (length o) 100) (refuse (BufferShort 100) o) (record { answer = a.answer; buffer = position_bytes a.position ++ drop 100 o }))
    (refuse a.answer o)

abbrev pub position_put : List ℕ → ℕ → ℕ → List ℕ → Outcome
position_put b k e o = position_stored (position_after b k e) o
