-- A block being filled: its length, its front, and what one part more makes of it.              (01, The block; Numbers of refusal: 4, 5)
-- Assumes nothing: these are definitions.
use Rattle.std.specs.Prelude.{ℕ, ◌+◌, ◌*◌, ◌-◌, ◌/◌, List, [], ◌∷◌, ◌++◌, Bool, false, length, drop, eqb, leb, ltb, Option, Some, None, Result, Ok, Err}
use Rattle.lists.specs.Pick.{pick}
use Rattle.lent.specs.Bytes.{fitting}
use Rattle.lent.specs.Stored.{put}
use Rattle.jkf.specs.Answers.{Outcome, refuse}
use Rattle.jkf.specs.Model.{Header, Noted}
use Rattle.jkf.specs.Attaching.{on_hang}
use Rattle.jkf.specs.Following.{hangs_by}
use Rattle.jkf.specs.declared.Answer.{Answer}
use Rattle.jkf.specs.declared.Answer.TheVariants.{BlockTooLong, BufferShort}
use Rattle.jkf.specs.declared.Entry.{Entry}
use Rattle.jkf.specs.declared.Position.{Position}
use Rattle.block.specs.EntryBytes.{entry_bytes}
use Rattle.block.specs.PositionBytes.{position_bytes}
use Rattle.block.specs.Encode.{head_bytes, block_length, line_bytes, header_row, comment_row}
use Rattle.filling.specs.declared.Sizes.{Sizes}
use Rattle.filling.specs.declared.Walk.{Walk}

-- ---- the answer

-- A block of n bytes that is too long, or longer than the buffer, is refused; else what comes of it.    (01, Numbers of refusal: 4, 5)
abbrev pub if_fits : {A : Type 0} → ℕ → ℕ → (Answer → A) → A → A
if_fits n room f r = pick (ltb 65535 n) (f (BlockTooLong n)) (pick (ltb room n) (f (BufferShort n)) r)

-- A refusal leaves the buffer as it was.
abbrev pub unless_refused : ℕ → List ℕ → Outcome → Outcome
unless_refused n o r = if_fits n (length o) (λ a. refuse a o) r

-- A block at the front of the buffer, of which nothing else changes.                              (01, Numbers of refusal: success)
abbrev pub at_front : List ℕ → List ℕ → List ℕ
at_front b o = b ++ drop (length b) o

-- ---- the length

-- Sizes that can be added up in 64 bits: each below 2 to the power of 58.
abbrev pub is_small : ℕ → Bool
is_small n = leb n 288230376151711743

unfoldable pub are_small : Sizes → Bool
are_small z =
    pick (is_small z.headers)
    (pick (is_small z.lines) (pick (is_small z.entries) (pick (is_small z.comments) (is_small z.bytes) false) false) false)
    false

-- The length of a block of these sizes; the largest number of 64 bits stands for all that are past measure.
unfoldable pub length_of : Sizes → ℕ
length_of z =
    pick (are_small z) (block_length z.headers z.lines z.entries z.comments z.bytes) 18446744073709551615

-- ---- the front

-- Where the parts of a block begin of which nothing is filled in.                                  (01, The block: offsets)
unfoldable pub begun : Sizes → Walk
begun z =
    record {
      headers = 128;
      lines = 128 + 8 * z.headers;
      moves = 128 + 8 * z.headers + 8 * z.lines;
      comments = 128 + 8 * z.headers + 8 * z.lines + 20 * z.entries;
      text = 128 + 8 * z.headers + 8 * z.lines + 20 * z.entries + 4 * z.comments;
      entries = 0;
      noted = 0;
      bytes = 0;
    }

-- A refusal or a beginning.
unfoldable pub opening : Sizes → ℕ → Result (Walk × ℕ) Answer
opening z room = if_fits (length_of z) room Err (Ok (begun z, length_of z))

-- The head, and the position behind it.
abbrev pub head_for : ℕ → Sizes → List ℕ
head_for version z = head_bytes version (length_of z) z.headers z.lines z.entries z.comments

unfoldable pub front_put : ℕ → Sizes → Position → List ℕ → List ℕ
front_put version z p o =
    let q = put o 0 (head_for version z) in put q 28 (fitting (position_bytes p) (drop 28 q))

-- The buffer that has the front, or is as it was.
unfoldable pub opened : ℕ → Sizes → Position → List ℕ → List ℕ
opened version z p o = if_fits (length_of z) (length o) (λ a. o) (front_put version z p o)

-- ---- one part more

-- The walk and the buffer after it.
pub record Grown : Type 0 where
  pub walk : Walk
  pub buffer : List ℕ

abbrev pub grown : Walk → List ℕ → Grown
grown w o = record { walk = w; buffer = o }

-- A number that does not overflow.
abbrev pub is_number : ℕ → Bool
is_number n = leb n 18446744073709551615

abbrev pub header : List ℕ → List ℕ → Header
header key value = record { key = key; value = value }

-- A header entry of so many bytes has room.
unfoldable pub has_header : ℕ → ℕ → Walk → ℕ → Bool
has_header key value w room =
    pick (leb (w.headers + 8) room)
    (pick (leb (w.text + key) room)
    (pick (leb (w.text + key + value) room) (pick (is_number (w.bytes + key)) (is_number (w.bytes + key + value)) false) false)
    false)
    false

-- A header entry's row at the end of the header rows; its key, and its value behind it, at the end of the texts. (01, The block: header entry, text)
unfoldable pub put_header : Header → Walk → List ℕ → Grown
put_header h w o =
    pick (has_header (length h.key) (length h.value) w (length o))
    (grown
    (record {
      headers = w.headers + 8;
      lines = w.lines;
      moves = w.moves;
      comments = w.comments;
      text = w.text + length h.key + length h.value;
      entries = w.entries;
      noted = w.noted;
      bytes = w.bytes + length h.key + length h.value;
    })
    (put (put o w.headers (header_row w.bytes h)) w.text (h.key ++ h.value)))
    (grown w o)

-- The row of the line that has the entries from number first on, at the end of the line rows.        (01, The block: line)
unfoldable pub put_line : ℕ → ℕ → ℕ → Walk → List ℕ → Grown
put_line start parent first w o =
    pick (leb (w.lines + 8) (length o))
    (grown
    (record {
      headers = w.headers;
      lines = w.lines + 8;
      moves = w.moves;
      comments = w.comments;
      text = w.text;
      entries = w.entries;
      noted = w.noted;
      bytes = w.bytes;
    })
    (put o w.lines (line_bytes start first (w.entries - first) parent)))
    (grown w o)

-- A comment of n bytes has room.
unfoldable pub has_comment : ℕ → Walk → ℕ → Bool
has_comment n w room =
    pick (leb (w.comments + 4) room)
    (pick (leb (w.text + n) room) (pick (is_number (w.noted + 1)) (is_number (w.bytes + n)) false) false)
    false

-- A comment's row at the end of the comment rows, its bytes at the end of the texts.                (01, The block: comment, text)
unfoldable pub put_comment : List ℕ → Walk → List ℕ → Grown
put_comment c w o =
    pick (has_comment (length c) w (length o))
    (grown
    (record {
      headers = w.headers;
      lines = w.lines;
      moves = w.moves;
      comments = w.comments + 4;
      text = w.text + length c;
      entries = w.entries;
      noted = w.noted + 1;
      bytes = w.bytes + length c;
    })
    (put (put o w.comments (comment_row w.bytes c)) w.text c))
    (grown w o)

-- An entry has room.
unfoldable pub has_entry : Walk → ℕ → Bool
has_entry w room = pick (leb (w.moves + 20) room) (is_number (w.entries + 1)) false

-- The walk with one entry more, which ends at a place.
abbrev pub entered : Walk → ℕ → Walk
entered w moves =
    record {
      headers = w.headers;
      lines = w.lines;
      moves = moves;
      comments = w.comments;
      text = w.text;
      entries = w.entries + 1;
      noted = w.noted;
      bytes = w.bytes;
    }

-- The entry that has the comments from number first on, at the end of the entries.                   (01, The block: move entry)
unfoldable pub put_entry : Entry → ℕ → Walk → List ℕ → Grown
put_entry e first w o =
    let count = w.noted - first in
    pick (has_entry w (length o))
    (grown (entered w (w.moves + 20)) (put o w.moves (entry_bytes e (pick (eqb count 0) 0 first) count)))
    (grown w o)

-- ---- a line, hung on those before it                                                              (01, Attaching rule)

-- Where the next line hangs: the first on none, told as entry 0 of line 0; any other on a line before it.
unfoldable pub hanging_of : ℕ → ℕ → Walk → List ℕ → Option (ℕ × ℕ)
hanging_of rows start w o =
    let k = (w.lines - rows) / 8 in let h = hangs_by (drop rows o) start k in pick (eqb k 0) (Some (0, 0)) h

-- Its row behind them, with the parent that was found; or that it hangs on none.
unfoldable pub hooked_of : ℕ → ℕ → ℕ → Walk → List ℕ → Option Walk
hooked_of rows start first w o =
    on_hang (hanging_of rows start w o) (λ p e. Some (put_line start p first w o).walk) None

unfoldable pub hooked_in : ℕ → ℕ → ℕ → Walk → List ℕ → List ℕ
hooked_in rows start first w o =
    on_hang (hanging_of rows start w o) (λ p e. (put_line start p first w o).buffer) o

-- ---- several parts, one after another

unfoldable pub put_all : {X : Type 0} → (X → Walk → List ℕ → Grown) → List X → Walk → List ℕ → Grown
put_all one [] w o = grown w o
put_all one (x ∷ xs) w o = let g = one x w o in put_all one xs g.walk g.buffer

abbrev pub put_comments : List (List ℕ) → Walk → List ℕ → Grown
put_comments = put_all put_comment

-- An entry with its comments: these first, since its bytes say how many they are.
unfoldable pub put_noted : Noted → Walk → List ℕ → Grown
put_noted e w o =
    let g = put_comments e.comments w o in put_entry e.what w.noted g.walk g.buffer

abbrev pub put_entries : List Noted → Walk → List ℕ → Grown
put_entries = put_all put_noted
