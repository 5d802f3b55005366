-- 01's listing, byte for byte: lines of words and decimal numbers, each with LF at its end.
-- (01, Positions on the board of cases: the listing program)
-- Assumes nothing: these are definitions.
use Rattle.std.specs.Prelude.{ℕ, ◌+◌, ◌*◌, List, [], ◌∷◌, ◌++◌, length, leb}
use Rattle.lists.specs.Pick.{pick}
use Rattle.lent.specs.Numbers.{decimal}
use Rattle.block.specs.Encode.{concat}
use Rattle.block.specs.Decode.{run, lines_in, start_of, entry_count, parent_of}

-- ---- the words, with the spaces around them

-- read
abbrev pub read_tag : List ℕ
read_tag = 114 ∷ 101 ∷ 97 ∷ 100 ∷ 32 ∷ []

-- block
abbrev pub block_tag : List ℕ
block_tag = 32 ∷ 98 ∷ 108 ∷ 111 ∷ 99 ∷ 107 ∷ 32 ∷ []

-- refused
abbrev pub refused_tag : List ℕ
refused_tag = 114 ∷ 101 ∷ 102 ∷ 117 ∷ 115 ∷ 101 ∷ 100 ∷ 32 ∷ []

-- a space
abbrev pub space_tag : List ℕ
space_tag = 32 ∷ []

-- line
abbrev pub line_tag : List ℕ
line_tag = 108 ∷ 105 ∷ 110 ∷ 101 ∷ 32 ∷ []

-- start
abbrev pub start_tag : List ℕ
start_tag = 32 ∷ 115 ∷ 116 ∷ 97 ∷ 114 ∷ 116 ∷ 32 ∷ []

-- moves
abbrev pub moves_tag : List ℕ
moves_tag = 32 ∷ 109 ∷ 111 ∷ 118 ∷ 101 ∷ 115 ∷ 32 ∷ []

-- parent
abbrev pub parent_tag : List ℕ
parent_tag = 32 ∷ 112 ∷ 97 ∷ 114 ∷ 101 ∷ 110 ∷ 116 ∷ 32 ∷ []

-- ---- the lines of the listing

-- A word and a number.
abbrev pub field : List ℕ → ℕ → List ℕ
field word v = word ++ decimal v

-- Two of them; and two that end a line.
abbrev pub fields : List ℕ → ℕ → List ℕ → ℕ → List ℕ
fields word v next w = field word v ++ field next w

abbrev pub last_fields : List ℕ → ℕ → List ℕ → ℕ → List ℕ
last_fields word v next w = fields word v next w ++ (10 ∷ [])

-- What reading answers: bytes taken and block length.                       (01, the listing program: the first line)
unfoldable pub read_text : ℕ → ℕ → List ℕ
read_text taken len = last_fields read_tag taken block_tag len

-- A refusal: its number and both figures, in one line.                      (01, the listing program: on a refusal)
unfoldable pub refusal_text : ℕ → ℕ → ℕ → List ℕ
refusal_text number first second = field refused_tag number ++ last_fields space_tag first space_tag second

-- A line of play: its number, its start, how many entries it has, and its parent.    (01, the listing program: each line)
unfoldable pub row_text : ℕ → ℕ → ℕ → ℕ → List ℕ
row_text k start moves parent = fields line_tag k start_tag start ++ last_fields moves_tag moves parent_tag parent

-- Line k of a block.
unfoldable pub listed_row : List ℕ → ℕ → List ℕ
listed_row b k = row_text k (start_of b k) (entry_count b k) (parent_of b k)

-- The lines of a block before line n, one after the other.
unfoldable pub rows_text : List ℕ → ℕ → List ℕ
rows_text b n = concat (λ t. t) (run (listed_row b) 0 n)

-- ---- the whole

-- The listing of a block that was read from so many bytes.
unfoldable pub listing_text : ℕ → List ℕ → List ℕ
listing_text taken b = read_text taken (length b) ++ rows_text b (lines_in b)

-- The room that is asked for: 53 bytes for what reading answers, with two numbers of 20 digits, and 48 for each line, with four of 5.
abbrev pub listing_room : List ℕ → ℕ
listing_room b = 53 + 48 * lines_in b

-- The listing where a buffer has that room, and else nothing.
unfoldable pub listed : ℕ → List ℕ → List ℕ → List ℕ
listed taken b o = pick (leb (listing_room b) (length o)) (listing_text taken b) []
