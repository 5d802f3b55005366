-- Where reading stopped, and why. In all of this b is the place past the information blocks and the board.     (02, request (ii))
-- Assumes nothing: these are definitions.
use Rattle.std.specs.Prelude.{ℕ, ◌+◌, ◌-◌, List, [], ◌∷◌, length, get_or, take, eqb, ltb, Option}
use Rattle.lists.specs.Pick.{pick}
use Rattle.lists.specs.Repeat.{Step, more, stop, on_step, many_from}
use Rattle.text.specs.Utf8.{is_next, well_formed_bytes}
use Rattle.jkf.specs.Attaching.{on_hung, near, Play, starts, counts, all_hung}
use Rattle.moves.specs.Failing.{further, on_failed, move_line_fail, skip_line_fail, comment_fail}
use Rattle.moves.specs.declared.Reason.{Reason}
use Rattle.moves.specs.declared.Reason.TheVariants.{NoNumber, TooLarge, NoPlace, NoKind, NoOrigin, NoBreak, CommentHere, EndOfText}
use Rattle.plays.specs.Plays.{entries_at, skips_at, variation_item, slot_at, past_main, plays_at}
use Rattle.kakinoki.specs.Starts.{on_fault, start_read}
use Rattle.stops.specs.declared.Seeking.{Seeking}
use Rattle.stops.specs.declared.Seeking.TheVariants.{AtHead, AfterComments, AfterSkips}
use Rattle.stops.specs.declared.Astray.{Astray}
use Rattle.stops.specs.declared.Spot.{Spot}
use Rattle.stops.specs.declared.StopAnswer.{StopAnswer}
use Rattle.stops.specs.declared.StopAnswer.TheVariants.{TextTooLong, NotUtf8, HandLine, NoEntry, Stopped}

-- ---- where the lines of play begin

-- A variation begins at its first move line, past the skip lines in front of it.
unfoldable pub begin_item : List ℕ → ℕ → Step ℕ
begin_item s at = on_step (variation_item s at) (λ next v. more next (skips_at s at)) stop

unfoldable pub begins_from : List ℕ → ℕ → List ℕ
begins_from s at = (many_from (begin_item s) (length s) at).state

-- Line 0 begins past the comments of its slot.
unfoldable pub begins_at : List ℕ → ℕ → List ℕ
begins_at s b = (slot_at s b).at ∷ begins_from s (past_main s (slot_at s b).at)

-- Where the last line of play ends; the skip line that it may take behind it is not of it.
unfoldable pub last_end : List ℕ → ℕ → ℕ
last_end s b = (entries_at s (get_or (begins_at s b) (length (begins_at s b) - 1) 0)).at

-- ---- what was tried last

-- Reading ends at the place p past the skip lines that no line of play follows: there is neither another of them nor a move line. Either nothing was
-- taken past the blocks; or a line of play or the slot ends at p, so that comments were tried there; or a skip line ends there.
unfoldable pub seeking_at : ℕ → ℕ → ℕ → Seeking
seeking_at b end p = pick (eqb p b) AtHead (pick (eqb end p) AfterComments AfterSkips)

-- The rules that are tried there, in their order: of their failures the one that got further tells, else the one tried first.
unfoldable pub tried_at : Seeking → List ℕ → ℕ → Option (ℕ × Reason)
tried_at AtHead s p = further (skip_line_fail s p) (further (comment_fail s p) (move_line_fail s p))
tried_at AfterComments s p = further (comment_fail s p) (further (move_line_fail s p) (skip_line_fail s p))
tried_at AfterSkips s p = further (skip_line_fail s p) (move_line_fail s p)

-- The first byte not taken, the reason, and the place that the failing rule reached; that no rule fails is never so.
unfoldable pub stopped_with : ℕ → ℕ → Option (ℕ × Reason) → StopAnswer
stopped_with taken p f = on_failed f (λ at r. Stopped taken r at) (Stopped taken EndOfText p)

-- With the last line of play ending at a place, and so many bytes taken.
unfoldable pub stopped_at : List ℕ → ℕ → ℕ → ℕ → StopAnswer
stopped_at s b end taken = stopped_with taken (skips_at s taken) (tried_at (seeking_at b end (skips_at s taken)) s (skips_at s taken))

-- ---- a variation that hangs nowhere

-- Its number and its ply; the line that it would hang on, with its first and its last ply; and its first move line.
unfoldable pub astray_from : List Play → List ℕ → ℕ → ℕ → Astray
astray_from ps begins k ply =
    let p = near (starts ps) ply k in
    record {
      variation = k;
      ply = ply;
      parent = p;
      first = starts ps p;
      last = starts ps p + (counts ps p - 1);
      at = get_or begins k 0;
    }

-- ---- the whole

-- Refusal 6 comes first, though nothing is stored.
unfoldable pub played_stop : List ℕ → ℕ → StopAnswer
played_stop s b =
    on_hung (all_hung (plays_at s b).state)
    (λ k ply. NoEntry (astray_from (plays_at s b).state (begins_at s b) k ply))
    (stopped_at s b (last_end s b) (plays_at s b).at)

-- Before it refusals 1, 2 and 3.                                                                        (01, Numbers of refusal: order)
unfoldable pub stop_of : List ℕ → StopAnswer
stop_of s =
    let r = on_fault (start_read s).fault HandLine (played_stop s (start_read s).next.at) in
    pick (ltb 65535 (length s)) (TextTooLong (length s)) (pick (ltb (well_formed_bytes s) (length s)) (NotUtf8 (well_formed_bytes s)) r)

-- ---- in numbers

-- 02's list of reasons.
abbrev pub reason_number : Reason → ℕ
reason_number NoNumber = 1
reason_number TooLarge = 2
reason_number NoPlace = 3
reason_number NoKind = 4
reason_number NoOrigin = 5
reason_number NoBreak = 6
reason_number CommentHere = 7
reason_number EndOfText = 8

-- The number of refusal, 0 where there is none, and six figures.
abbrev pub stop_figures : StopAnswer → List ℕ
stop_figures (TextTooLong n) = 1 ∷ n ∷ 0 ∷ 0 ∷ 0 ∷ 0 ∷ 0 ∷ []
stop_figures (NotUtf8 n) = 2 ∷ n ∷ 0 ∷ 0 ∷ 0 ∷ 0 ∷ 0 ∷ []
stop_figures (HandLine at) = 3 ∷ at ∷ 0 ∷ 0 ∷ 0 ∷ 0 ∷ 0 ∷ []
stop_figures (NoEntry a) = 6 ∷ a.variation ∷ a.ply ∷ a.parent ∷ a.first ∷ a.last ∷ a.at ∷ []
stop_figures (Stopped taken r at) = 0 ∷ taken ∷ reason_number r ∷ at ∷ 0 ∷ 0 ∷ 0 ∷ []

-- ---- a place, for a reader

abbrev pub spot : ℕ → ℕ → Spot
spot line column = record { line = line; column = column }

-- A byte later: an LF begins the next line, and the later bytes of a character count for nothing.
abbrev pub next_spot : ℕ → Spot → Spot
next_spot b x = pick (eqb b 10) (spot (x.line + 1) 1) (pick (is_next b) x (spot x.line (x.column + 1)))

unfoldable pub spot_from : Spot → List ℕ → Spot
spot_from x [] = x
spot_from x (b ∷ l) = spot_from (next_spot b x) l

-- The line, and how many characters stand in it before the place, both counted from 1.
unfoldable pub spot_at : List ℕ → ℕ → Spot
spot_at s at = spot_from (spot 1 1) (take at s)
