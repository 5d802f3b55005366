-- What a block says: its fields by their places, and the record that they make. All of it is total.    (01, The block)
-- Assumes nothing: these are definitions.
use Rattle.std.specs.Prelude.{ℕ, zero, suc, ◌+◌, ◌*◌, List, [], ◌∷◌, take, drop}
use Rattle.lent.specs.Bytes.{le16}
use Rattle.block.specs.EntryBytes.{entry_in}
use Rattle.block.specs.PositionBytes.{position_in}
use Rattle.jkf.specs.Model.{Header, Noted, Line, Record}

-- ---- the version, counts, and where the parts and their rows stand

abbrev pub version_in : List ℕ → ℕ
version_in b = le16 b 2

abbrev pub headers_in : List ℕ → ℕ
headers_in b = le16 b 6

abbrev pub lines_in : List ℕ → ℕ
lines_in b = le16 b 8

abbrev pub moves_in : List ℕ → ℕ
moves_in b = le16 b 10

abbrev pub comments_in : List ℕ → ℕ
comments_in b = le16 b 12

abbrev pub header_place : List ℕ → ℕ → ℕ
header_place b k = 128 + 8 * k

abbrev pub line_place : List ℕ → ℕ → ℕ
line_place b k = 128 + 8 * headers_in b + 8 * k

abbrev pub move_place : List ℕ → ℕ → ℕ
move_place b k = 128 + 8 * headers_in b + 8 * lines_in b + 20 * k

abbrev pub comment_place : List ℕ → ℕ → ℕ
comment_place b k = 128 + 8 * headers_in b + 8 * lines_in b + 20 * moves_in b + 4 * k

abbrev pub text_place : List ℕ → ℕ
text_place b = 128 + 8 * headers_in b + 8 * lines_in b + 20 * moves_in b + 4 * comments_in b

-- ---- fields of the rows

abbrev pub key_offset : List ℕ → ℕ → ℕ
key_offset b k = le16 b (header_place b k)

abbrev pub key_length : List ℕ → ℕ → ℕ
key_length b k = le16 b (header_place b k + 2)

abbrev pub value_offset : List ℕ → ℕ → ℕ
value_offset b k = le16 b (header_place b k + 4)

abbrev pub value_length : List ℕ → ℕ → ℕ
value_length b k = le16 b (header_place b k + 6)

abbrev pub start_of : List ℕ → ℕ → ℕ
start_of b k = le16 b (line_place b k)

abbrev pub first_entry : List ℕ → ℕ → ℕ
first_entry b k = le16 b (line_place b k + 2)

abbrev pub entry_count : List ℕ → ℕ → ℕ
entry_count b k = le16 b (line_place b k + 4)

abbrev pub parent_of : List ℕ → ℕ → ℕ
parent_of b k = le16 b (line_place b k + 6)

abbrev pub first_comment : List ℕ → ℕ → ℕ
first_comment b k = le16 b (move_place b k + 16)

abbrev pub comment_count : List ℕ → ℕ → ℕ
comment_count b k = le16 b (move_place b k + 18)

abbrev pub comment_offset : List ℕ → ℕ → ℕ
comment_offset b k = le16 b (comment_place b k)

abbrev pub comment_length : List ℕ → ℕ → ℕ
comment_length b k = le16 b (comment_place b k + 2)

-- A text, by its place in the text part.                                             (01, The block: offsets of texts)
abbrev pub stored_text : List ℕ → ℕ → ℕ → List ℕ
stored_text b offset len = take len (drop (text_place b + offset) b)

-- ---- the record

-- What f makes of n numbers from k on.
unfoldable pub run : {X : Type 0} → (ℕ → X) → ℕ → ℕ → List X
run f k zero = []
run f k (suc n) = let r = run f (k + 1) n in f k ∷ r

unfoldable pub key_of : List ℕ → ℕ → List ℕ
key_of b k = stored_text b (key_offset b k) (key_length b k)

unfoldable pub value_of : List ℕ → ℕ → List ℕ
value_of b k = stored_text b (value_offset b k) (value_length b k)

unfoldable pub comment_of : List ℕ → ℕ → List ℕ
comment_of b k = stored_text b (comment_offset b k) (comment_length b k)

abbrev pub header_in : List ℕ → ℕ → Header
header_in b k = record { key = key_of b k; value = value_of b k }

abbrev pub noted_in : List ℕ → ℕ → Noted
noted_in b k =
    record {
      what = entry_in (drop (move_place b k) b);
      comments = run (comment_of b) (first_comment b k) (comment_count b k);
    }

abbrev pub line_in : List ℕ → ℕ → Line
line_in b k =
    record {
      start = start_of b k;
      parent = parent_of b k;
      entries = run (noted_in b) (first_entry b k) (entry_count b k);
    }

unfoldable pub decode : List ℕ → Record
decode b =
    record {
      version = version_in b;
      headers = run (header_in b) 0 (headers_in b);
      position = position_in (drop 28 b);
      lines = run (line_in b) 0 (lines_in b);
    }
