-- The cases that 01 marks with ●, and its worked example, as one table in 01's order. The texts are real ones, read and edited by what the
-- public calls promise.                                                                               (01, Positions on the board of cases)
-- Assumes nothing: these are definitions.
use Rattle.std.specs.Prelude.{ℕ, ◌-◌, ◌≤◌, ◌≡◌, List, [], ◌∷◌, length, replicate, eqb, Some, None}
use Rattle.lists.specs.All.{All}
use Rattle.lists.specs.Pick.{pick}
use Rattle.text.specs.Text.{cursor}
use Rattle.spell.specs.Count.{hand_count_at}
use Rattle.jkf.specs.Answers.{Outcome, figures, figured}
use Rattle.jkf.specs.declared.Target.TheVariants.{Same}
use Rattle.jkf.specs.declared.Time.TheVariants.{Untimed}
use Rattle.jkf.specs.declared.Entry.TheVariants.{Moved}
use Rattle.block.specs.Decode.{run, lines_in, start_of, parent_of}
use Rattle.moves.specs.Moves.{move_line_at}
use Rattle.moves.specs.declared.MoveLine.{MoveLine}
use Rattle.parser.specs.Read.{fill_of}
use Rattle.edit.specs.Outcomes.{put_in_of, cut_of}
use Rattle.shown.specs.Listing.{listing_text, refusal_text}
use Rattle.laws.specs.Blocks.{front_of}
use Rattle.laws.specs.CaseTexts.{short_move, origin_line, Variation, from, text_of, ninety_nine, worked_text, worked_listing}

-- ---- the calls, with a lent buffer o

-- Reading a text of the main line and these variations.
abbrev pub reading : List ℕ → List Variation → Outcome
reading o vs = fill_of (text_of vs) o

-- The block that a reading stores: its second figure says how long it is.
abbrev pub block_of : Outcome → List ℕ
block_of r = front_of (figures r.answer).second r

-- Putting a variation of one move in on a line, with this ply printed.
abbrev pub putting : List ℕ → List Variation → ℕ → ℕ → Outcome
putting o vs line ply = put_in_of (block_of (reading o vs)) line (short_move ply) o

-- Cutting a line out.
abbrev pub cutting : List ℕ → List Variation → ℕ → Outcome
cutting o vs line = cut_of (block_of (reading o vs)) line o

-- What the listing program prints of a reading.
unfoldable pub listing : Outcome → List ℕ
listing r =
    let f = figures r.answer in
    pick (eqb f.number 0) (listing_text f.first (block_of r)) (refusal_text f.number f.first f.second)

-- ---- where lines hang

-- On which line, and on which of its entries.
pub record HangsAt : Type 0 where
  pub line : ℕ
  pub entry : ℕ

-- On this line, on its entry with this number.
abbrev pub on : ℕ → ℕ → HangsAt
on line entry = record { line = line; entry = entry }

-- A line's parent, and its start less the parent's.                                                   (01, Attaching rule)
abbrev pub place_in : List ℕ → ℕ → HangsAt
place_in b k = on (parent_of b k) (start_of b k - start_of b (parent_of b k))

-- What f says of each variation of the block in the buffer.
abbrev pub each_of : {A : Type 0} → (List ℕ → ℕ → A) → Outcome → List A
each_of f r = run (f r.buffer) 1 (lines_in r.buffer - 1)

-- ---- what a call gives

-- The variations hang at places; a new line has a number, and then they hang so; so many lines are cut, and the others start at plies; a
-- refusal has a number and two figures.
pub data Result : Type 0 where
  hang : List HangsAt → Result
  goes_in : ℕ → List HangsAt → Result
  leaves : ℕ → List ℕ → Result
  refused : ℕ → ℕ → ℕ → Result

-- What a result says of the outcome r of a call that was lent the buffer o.
abbrev pub Gives : List ℕ → Result → Outcome → Type 0
-- Success, and the variations hang at these places.
Gives o (hang places) r = ((figures r.answer).number ≡ 0) × (each_of place_in r ≡ places)
-- Success as line n, and then the variations hang at these places.
Gives o (goes_in n places) r = ((figures r.answer).number ≡ 0) × ((figures r.answer).second ≡ n) × (each_of place_in r ≡ places)
-- Success with n lines removed, and the variations left have these starts.
Gives o (leaves n starts) r = ((figures r.answer).number ≡ 0) × ((figures r.answer).second ≡ n) × (each_of start_of r ≡ starts)
-- A refusal: its number and both figures. Number 6 clears the buffer, and any other leaves it as it was.   (01, Numbers of refusal)
Gives o (refused number first second) r =
    (figures r.answer ≡ figured number first second) × (r.buffer ≡ pick (eqb number 6) (replicate (length o) 0) o)

-- ---- the table

-- A call and what it gives; or what a few bytes say.
pub data Case : Type 0 where
  reads : List Variation → Result → Case
  puts : List Variation → ℕ → ℕ → Result → Case
  cuts : List Variation → ℕ → Result → Case
  is_from : ℕ → ℕ → ℕ → Case
  is_no_line : ℕ → Case
  counts : List ℕ → ℕ → Case
  prints : List ℕ → List ℕ → Case

-- What a row says, with a lent buffer o.
abbrev pub Holds : List ℕ → Case → Type 0
-- Reading a text of the main line and these variations.
Holds o (reads vs given) = Gives o given (reading o vs)
-- Put-in on this line at this ply, into the block of such a text; cutting this line out of it.
Holds o (puts vs line ply given) = Gives o given (putting o vs line ply)
Holds o (cuts vs line given) = Gives o given (cutting o vs line)
-- 1 同歩(n) is a move line, to its last byte, from (x, y).
Holds o (is_from n x y) =
    move_line_at (origin_line n) 0
    ≡ Some (record { number = 1; entry = (Moved (record { color = 0; piece = 1; promote = 0; to = Same; from = Some (x, y); time = Untimed })); next = (cursor (length (origin_line n))) })
-- 1 同歩(n) is no move line.
Holds o (is_no_line n) = move_line_at (origin_line n) 0 ≡ None
-- The characters are this count, to their last byte.
Holds o (counts t n) = hand_count_at t 0 ≡ Some (n, cursor (length t))
-- The listing program prints this of the text.
Holds o (prints t listed) = listing (fill_of t o) ≡ listed

-- The rows.
unfoldable pub cases : List Case
cases =
    -- 1: what starts later may stand before what starts earlier: both are on the main line
    reads (from 5 3 ∷ from 3 1 ∷ []) (hang (on 0 5 ∷ on 0 3 ∷ [])) ∷
    -- 2: after a line that starts earlier, on that line: its third entry has ply 5
    reads (from 3 4 ∷ from 5 1 ∷ []) (hang (on 0 3 ∷ on 1 2 ∷ [])) ∷
    -- 3: after a line that starts at the same ply, on its first entry
    reads (from 5 1 ∷ from 5 1 ∷ []) (hang (on 0 5 ∷ on 1 0 ∷ [])) ∷
    -- 4: the nearest line is too short, and no other is looked for: variation 2, ply 5
    reads (from 3 2 ∷ from 5 1 ∷ []) (refused 6 2 5) ∷
    -- 5: on the last move
    reads (from 8 1 ∷ []) (hang (on 0 8 ∷ [])) ∷
    -- 6: and past it
    reads (from 9 1 ∷ []) (refused 6 1 9) ∷
    -- 7: on the slot
    reads (from 0 1 ∷ []) (hang (on 0 0 ∷ [])) ∷
    -- 8: a put-in stands before the first later line that does not start after it
    puts (from 5 3 ∷ from 3 1 ∷ []) 0 4 (goes_in 2 (on 0 5 ∷ on 0 4 ∷ on 0 3 ∷ [])) ∷
    -- 9: where a variation hangs already
    puts (from 5 3 ∷ from 3 1 ∷ []) 0 5 (refused 13 0 5) ∷
    -- 10: past the end of the line
    puts (from 5 3 ∷ from 3 1 ∷ []) 1 8 (refused 12 1 8) ∷
    -- 11: a cut takes the run of lines that start no earlier: 3, 5 and 4 go
    cuts (from 3 4 ∷ from 5 1 ∷ from 4 1 ∷ from 2 1 ∷ []) 1 (leaves 3 (2 ∷ [])) ∷
    -- 12: the largest origin
    is_from 255 25 5 ∷
    -- 13: one more
    is_no_line 256 ∷
    -- 14: the largest count
    counts ninety_nine 99 ∷
    -- 15: the worked example: what is printed of it
    prints worked_text worked_listing ∷ []

-- Every row holds, with any lent buffer of 600 bytes or more.
abbrev pub CasesHold : Type 0
CasesHold = (o : List ℕ) → 600 ≤ length o → All (Holds o) cases
