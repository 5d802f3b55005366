-- On the way to an edited block: what was counted of a text; the lines before line p, new ones, and the lines from line q on; how they are
-- put, and their sizes.
-- Assumes nothing: these are definitions.
use Rattle.std.specs.Prelude.{ℕ, ◌+◌, ◌-◌, ◌≤◌, ◌≡◌, List, [], ◌∷◌, ◌++◌, map, length, take, drop, leb, Option, Some, None}
use Rattle.lists.specs.Pick.{pick}
use Rattle.lists.specs.Repeat.{Ended}
use Rattle.jkf.specs.Model.{Noted, Line, Record}
use Rattle.block.specs.Encode.{comments_of, comment_text}
use Rattle.block.specs.Decode.{run, headers_in, lines_in, moves_in, header_in, noted_in, decode}
use Rattle.block.specs.Sound.{header_bytes, entries_before}
use Rattle.filling.specs.Filling.{Grown, put_line, put_all, put_entries}
use Rattle.filling.specs.inner.Parts.{put_headers}
use Rattle.filling.specs.declared.Sizes.{Sizes}
use Rattle.filling.specs.declared.Walk.{Walk}
use Rattle.plays.specs.Plays.{ply_at, sequence_at}
use Rattle.plays.specs.Counted.{extent_at}
use Rattle.edit.specs.Edit.{reparented, variation_of, line_on}
use Rattle.edit.specs.declared.Added.{Added}
use Rattle.edit.specs.declared.Added.{Added}

-- ---- the text

-- The entries of a text as far as its numbers go up by one from the first.
abbrev pub numbered_in : List ℕ → Ended (List Noted)
numbered_in t = sequence_at (ply_at t 0) t 0

-- ---- the new lines

-- None, or the line of a text.
abbrev pub new_lines : Option Added → List ℕ → List Line
new_lines None t = []
new_lines (Some r) t = line_on r.line (variation_of t) ∷ []

-- What is handed on about the text was counted of it.
abbrev pub Counted : Option Added → List ℕ → Type 0
Counted None t = Unit {0}
Counted (Some r) t = (r.ply ≡ ply_at t 0) × (r.extent ≡ extent_at t 0) × (length t ≤ 65535)

-- ---- the lines

-- A line's number once the lines from p to q - 1 gave way to n new ones.
unfoldable pub shifted : ℕ → ℕ → ℕ → ℕ → ℕ
shifted p q n i = pick (leb p i) (i + n - (q - p)) i

-- The lines before line p, new ones, and those from line q on: each of the old ones on its old parent, renumbered.
abbrev pub spliced : ℕ → ℕ → List Line → List Line → List Line
spliced p q vs ls = let qs = map (reparented (shifted p q (length vs))) ls in take p qs ++ (vs ++ drop q qs)

abbrev pub lines_after : List ℕ → ℕ → ℕ → List Line → List Line
lines_after b p q vs = spliced p q vs (decode b).lines

-- A record of a version, with other lines.
unfoldable pub relined : ℕ → Record → List Line → Record
relined version r ls = record { version = version; headers = r.headers; position = r.position; lines = ls }

abbrev pub record_after : ℕ → List ℕ → ℕ → ℕ → List Line → Record
record_after version b p q vs = relined version (decode b) (lines_after b p q vs)

-- ---- lines put one after another

-- A line: its entries, and then its row, on its parent.
unfoldable pub put_whole : Line → Walk → List ℕ → Grown
put_whole l w o =
    let g = put_entries l.entries w o in put_line l.start l.parent w.entries g.walk g.buffer

abbrev pub put_wholes : List Line → Walk → List ℕ → Grown
put_wholes = put_all put_whole

-- ---- their entries

abbrev pub entries_after : List ℕ → ℕ → ℕ → List Noted → List Noted
entries_after b p q es =
    run (noted_in b) 0 (entries_before b p) ++ (es ++ run (noted_in b) (entries_before b q) (moves_in b - entries_before b q))

-- How many comments a run of the block's entries has, and how many bytes these have.
abbrev pub comments_within : List ℕ → ℕ → ℕ → ℕ
comments_within b k n = length (comments_of (run (noted_in b) k n))

abbrev pub bytes_within : List ℕ → ℕ → ℕ → ℕ
bytes_within b k n = length (comment_text (comments_of (run (noted_in b) k n)))

-- The sizes of the block with new lines of these sizes.
abbrev pub sizes_after : List ℕ → ℕ → ℕ → Sizes → Sizes
sizes_after b p q z =
    let back = moves_in b - entries_before b q in
    record {
      headers = headers_in b;
      lines = p + z.lines + (lines_in b - q);
      entries = entries_before b p + z.entries + back;
      comments = comments_within b 0 (entries_before b p) + z.comments + comments_within b (entries_before b q) back;
      bytes = header_bytes b (headers_in b) + (bytes_within b 0 (entries_before b p) + z.bytes + bytes_within b (entries_before b q) back);
    }

-- The header entries of a block, put into another.
abbrev pub headers_put : List ℕ → Walk → List ℕ → Grown
headers_put b w o = put_headers (run (header_in b) 0 (headers_in b)) w o
