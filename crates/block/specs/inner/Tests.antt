-- The parts of the test of soundness that are made by themselves: the fields of a row, and where a text stands.
-- Assumes nothing: these are definitions.
use Rattle.std.specs.Prelude.{ℕ, ◌+◌, ◌%◌, not, List, [], ◌∷◌, ◌++◌, length, take, drop, get_or, eqb}
use Rattle.lists.specs.Pick.{pick}
use Rattle.lists.specs.Test.{Test, ◌equals◌, ◌at_most◌, holds, ◌and◌}
use Rattle.lent.specs.Bytes.{le16}
use Rattle.text.specs.Utf8.{is_next}
use Rattle.jkf.specs.Entries.{time_of}
use Rattle.block.specs.EntryBytes.{time_mark, target_bytes, origin_bytes, time_bytes, entry_head, time_in, target_in, origin_in, entry_in}
use Rattle.block.specs.Decode.{headers_in, key_offset, key_length, value_offset, comment_offset}
use Rattle.text.specs.Text.{same}
use Rattle.block.specs.Sound.{kind_test, header_bytes, comment_bytes}

-- ---- a row of 20 bytes

-- The marks of the time are right, and so are its bytes.
abbrev pub time_test : List ℕ → Test
time_test l =
    get_or l 8 0 equals get_or l 8 0 % 4 + time_mark (time_in l)
    and holds (same (take 6 (drop 9 l)) (time_bytes (time_in l)))

-- A move's colour, kind and promotion are in range, and squares that are not used are zero.
abbrev pub move_test : List ℕ → Test
move_test l =
    get_or l 1 0 at_most 1
    and 1 at_most get_or l 2 0
    and get_or l 2 0 at_most 14
    and get_or l 3 0 at_most 2
    and holds (same (take 2 (drop 4 l)) (target_bytes (target_in l)))
    and holds (same (take 2 (drop 6 l)) (origin_bytes (origin_in l)))

-- An ending has its number, no mark but those of the time, and zeros.
abbrev pub end_test : List ℕ → Test
end_test l =
    get_or l 1 0 at_most 13
    and get_or l 8 0 % 4 equals 0
    and holds (same (take 6 (drop 2 l)) (0 ∷ 0 ∷ 0 ∷ 0 ∷ 0 ∷ 0 ∷ []))

-- The 15 bytes before the numbers are those of the entry k that they say.
abbrev pub head_test_of : ℕ → List ℕ → Test
head_test_of k l =
    kind_test k (entry_in l)
    and holds (same (take 15 l) (entry_head (entry_in l) ++ time_bytes (time_of (entry_in l))))

-- A zero, and the number of the first comment, which is 0 where there is none.
abbrev pub comments_test : ℕ → List ℕ → Test
comments_test next l =
    get_or l 15 0 equals 0
    and le16 l 16 equals pick (eqb (le16 l 18) 0) 0 (next % 65536)

-- A row of entry k, whose comments begin with this one.
abbrev pub row_test : ℕ → ℕ → List ℕ → Test
row_test k next l = 20 at_most length l and head_test_of k l and comments_test next l

-- ---- texts, of which the part begins at t

-- A character may begin at a place of the text part.
abbrev pub begins : List ℕ → ℕ → ℕ → Test
begins b t at = holds (not (is_next (get_or b (t + at) 0)))

-- The key and the value of header entry k stand behind those before, and each begins where a character may.
abbrev pub header_stands : List ℕ → ℕ → ℕ → Test
header_stands b t k =
    key_offset b k equals header_bytes b k
    and value_offset b k equals header_bytes b k + key_length b k
    and begins b t (header_bytes b k)
    and begins b t (header_bytes b k + key_length b k)

-- Comment k stands behind those before, and begins where a character may.
abbrev pub comment_stands : List ℕ → ℕ → ℕ → Test
comment_stands b t k =
    comment_offset b k equals header_bytes b (headers_in b) + comment_bytes b k
    and begins b t (header_bytes b (headers_in b) + comment_bytes b k)
