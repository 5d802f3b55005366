-- What a sound block keeps: a test for each sentence of 01, which is both the Bool that is computed and the fact that it says. `equals` and
-- `at_most` are weaker than `+`, and `and` is weaker than they.
-- (01, The block; Attaching rule; 02, request (vi))
-- Assumes nothing: these are definitions.
use Rattle.std.specs.Prelude.{ℕ, zero, suc, ◌+◌, List, Bool, true, false, length, take, drop, get_or, eqb, leb, ltb}
use Rattle.lists.specs.Pick.{pick}
use Rattle.lists.specs.Test.{Test, ◌equals◌, ◌at_most◌, holds, ◌and◌, each, flag}
use Rattle.lent.specs.Bytes.{le16}
use Rattle.text.specs.Text.{before, same}
use Rattle.text.specs.Utf8.{well_formed_bytes}
use Rattle.block.specs.EntryBytes.{entry_in, entry_bytes}
use Rattle.block.specs.PositionBytes.{position_in}
use Rattle.jkf.specs.Trees.{is_version, hang_test}
use Rattle.jkf.specs.declared.Entry.{Entry}
use Rattle.jkf.specs.declared.Entry.TheVariants.{Slot, Moved, End}
use Rattle.jkf.specs.declared.Position.{Position}
use Rattle.block.specs.Decode.{version_in, headers_in, lines_in, moves_in, comments_in, line_place, move_place, comment_place, text_place, key_offset, key_length, value_offset, value_length, start_of, first_entry, entry_count, parent_of, comment_count, comment_offset, comment_length, key_of, value_of, comment_of}

-- ---- words

-- f 0 and so on up to f (k - 1), added up.
unfoldable pub sum : (ℕ → ℕ) → ℕ → ℕ
sum f zero = 0
sum f (suc k) = sum f k + f k

-- A text is valid UTF-8.                                                                             (01, The block: sound)
abbrev pub valid : List ℕ → Test
valid t = well_formed_bytes t equals length t

-- ---- the head                                                                                       (01, The block: bytes 0 to 27)

-- `KB`, version 1 or 2, its own length, and four zeros behind the offsets.                           (02, request (vi): version 2)
abbrev pub head_test : List ℕ → Test
head_test b =
    128 at_most length b
    and length b at_most 65535
    and get_or b 0 0 equals 75
    and get_or b 1 0 equals 66
    and holds (is_version (version_in b))
    and le16 b 4 equals length b
    and le16 b 24 equals 0
    and le16 b 26 equals 0

-- The five parts follow one another without gaps.                                                     (01, The block: the five parts)
abbrev pub parts_test : List ℕ → Test
parts_test b =
    le16 b 14 equals 128
    and le16 b 16 equals line_place b 0
    and le16 b 18 equals move_place b 0
    and le16 b 20 equals comment_place b 0
    and le16 b 22 equals text_place b

-- ---- the position                                                                                   (01, The block: 100 bytes)

-- Empty, Black 1 to 14, or White 17 to 30.
abbrev pub is_cell : ℕ → Bool
is_cell c = pick (leb c 14) true (pick (leb 17 c) (leb c 30) false)

-- Without a diagram turn, cells and counts are zero; with one the preset is 16.
abbrev pub diagram_test : Position → Test
diagram_test p =
    holds
    (pick (eqb p.board 0)
    (flag (p.turn equals 0 and each 81 (λ i. get_or p.cells i 0 equals 0) and each 14 (λ i. get_or p.hands i 0 equals 0)))
    (eqb p.preset 16))

abbrev pub fits_test : Position → Test
fits_test p =
    p.preset at_most 16
    and p.board at_most 1
    and p.turn at_most 1
    and each 81 (λ i. holds (is_cell (get_or p.cells i 0)))
    and diagram_test p

-- The position that the bytes say, with a zero after the turn and one at the end.
abbrev pub position_test : List ℕ → Test
position_test b =
    get_or b 31 0 equals 0
    and get_or b 127 0 equals 0
    and fits_test (position_in (drop 28 b))

-- ---- the header table                                                                               (01, The block: header entry)

-- The bytes of texts before header entry k.
abbrev pub header_bytes : List ℕ → ℕ → ℕ
header_bytes b = sum (λ k. key_length b k + value_length b k)

-- The key of header entry k comes before the next one by bytes: so keys are distinct and ascend.
abbrev pub ascends : List ℕ → ℕ → Test
ascends b k = holds (pick (ltb (k + 1) (headers_in b)) (before (key_of b k) (key_of b (k + 1))) true)

abbrev pub header_test : List ℕ → ℕ → Test
header_test b k =
    key_offset b k equals header_bytes b k
    and value_offset b k equals header_bytes b k + key_length b k
    and valid (key_of b k)
    and valid (value_of b k)
    and ascends b k

-- ---- the comments                                                                                   (01, The block: comment)

abbrev pub comment_bytes : List ℕ → ℕ → ℕ
comment_bytes b = sum (λ k. comment_length b k)

abbrev pub comment_test : List ℕ → ℕ → Test
comment_test b k =
    comment_offset b k equals header_bytes b (headers_in b) + comment_bytes b k
    and valid (comment_of b k)

-- ---- the entries                                                                                    (01, The block: move entry)

-- The slot is the first entry and no other; a move's colour, kind and promotion are in range. A sort above 2, an ending's number above 13,
-- mark bits without a meaning, and marks 8 or 16 without 4 are refused by `entry_test`: the bytes of the entry that they say are others.
abbrev pub kind_test : ℕ → Entry → Test
kind_test k Slot = k equals 0
kind_test k (Moved m) =
    1 at_most k
    and m.color at_most 1
    and 1 at_most m.piece
    and m.piece at_most 14
    and m.promote at_most 2
kind_test k (End s t) = 1 at_most k

abbrev pub comments_before : List ℕ → ℕ → ℕ
comments_before b = sum (λ k. comment_count b k)

-- The 20 bytes of entry k are those of the entry that they say, with the comments in a row: so what is not used is zero.
abbrev pub entry_test : List ℕ → ℕ → Test
entry_test b k =
    let e = entry_in (drop (move_place b k) b) in
    kind_test k e
    and holds
    (same (take 20 (drop (move_place b k) b))
    (entry_bytes e (pick (eqb (comment_count b k) 0) 0 (comments_before b k)) (comment_count b k)))

-- ---- the lines                                                                                      (01, The block: line)

abbrev pub entries_before : List ℕ → ℕ → ℕ
entries_before b = sum (λ k. entry_count b k)

-- No line is empty, their entries follow one another, and each hangs as the block's version asks.
abbrev pub line_test : List ℕ → ℕ → Test
line_test b k =
    first_entry b k equals entries_before b k
    and 1 at_most entry_count b k
    and hang_test (version_in b) (start_of b) (entry_count b) (parent_of b) k

-- ---- the whole

-- The counts of the head are those of the tables, and the texts end where the block does.
abbrev pub totals_test : List ℕ → Test
totals_test b =
    1 at_most lines_in b
    and entries_before b (lines_in b) equals moves_in b
    and comments_before b (moves_in b) equals comments_in b
    and text_place b + header_bytes b (headers_in b) + comment_bytes b (comments_in b) equals length b

-- All that 01 asks of a sound block, in one test.
abbrev pub sound_test : List ℕ → Test
sound_test b =
    head_test b
    and parts_test b
    and totals_test b
    and position_test b
    and each (headers_in b) (header_test b)
    and each (lines_in b) (line_test b)
    and each (moves_in b) (entry_test b)
    and each (comments_in b) (comment_test b)

unfoldable pub soundb : List ℕ → Bool
soundb b = flag (sound_test b)
