-- The block of a record, byte for byte.                                                              (01, The block)
-- Assumes nothing: these are definitions.
use Rattle.std.specs.Prelude.{ℕ, ◌+◌, ◌*◌, List, [], ◌∷◌, ◌++◌, length, eqb}
use Rattle.lists.specs.Pick.{pick}
use Rattle.lent.specs.Bytes.{bytes16}
use Rattle.block.specs.EntryBytes.{entry_bytes}
use Rattle.block.specs.PositionBytes.{position_bytes}
use Rattle.jkf.specs.Model.{Header, Noted, Line, Record}

-- Rows one after the other, each made in a state that the rows before it moved on: where its text begins, which comment or entry is next.
unfoldable pub table : {S X : Type 0} → (S → X → List ℕ) → (S → X → S) → S → List X → List ℕ
table row step s [] = []
table row step s (x ∷ xs) = row s x ++ table row step (step s x) xs

-- Lists one after the other.
unfoldable pub concat : {X Y : Type 0} → (X → List Y) → List X → List Y
concat f [] = []
concat f (x ∷ xs) = f x ++ concat f xs

-- ---- the five parts

-- Where the key and the value begin, each with its length behind it.                                  (01, The block: header entry)
abbrev pub header_row : ℕ → Header → List ℕ
header_row at h = bytes16 at ++ bytes16 (length h.key) ++ bytes16 (at + length h.key) ++ bytes16 (length h.value)

abbrev pub header_step : ℕ → Header → ℕ
header_step at h = at + length h.key + length h.value

-- Start, first entry, entry count, parent.                                                           (01, The block: line)
abbrev pub line_bytes : ℕ → ℕ → ℕ → ℕ → List ℕ
line_bytes start first count parent = bytes16 start ++ bytes16 first ++ bytes16 count ++ bytes16 parent

abbrev pub line_row : ℕ → Line → List ℕ
line_row first l = line_bytes l.start first (length l.entries) l.parent

abbrev pub line_step : ℕ → Line → ℕ
line_step first l = first + length l.entries

-- The 20 bytes of an entry; the first comment is zero where there is none.                           (01, The block: move entry)
abbrev pub entry_row : ℕ → Noted → List ℕ
entry_row next e = entry_bytes e.what (pick (eqb (length e.comments) 0) 0 next) (length e.comments)

abbrev pub entry_step : ℕ → Noted → ℕ
entry_step next e = next + length e.comments

-- Offset, length.                                                                                    (01, The block: comment)
abbrev pub comment_row : ℕ → List ℕ → List ℕ
comment_row at c = bytes16 at ++ bytes16 (length c)

abbrev pub comment_step : ℕ → List ℕ → ℕ
comment_step at c = at + length c

-- Each key then its value.                                                                           (01, The block: text)
abbrev pub header_text : List Header → List ℕ
header_text = concat (λ h. h.key ++ h.value)

-- All entries in the order of the lines, and all comments in the order of the entries.
abbrev pub entries_of : List Line → List Noted
entries_of = concat (λ l. l.entries)

abbrev pub comments_of : List Noted → List (List ℕ)
comments_of = concat (λ e. e.comments)

abbrev pub comment_text : List (List ℕ) → List ℕ
comment_text = concat (λ c. c)

-- ---- the whole

-- `KB`, version, total length, the four counts, the five offsets, zeros.                              (01, The block: bytes 0 to 27)
unfoldable pub head_bytes : ℕ → ℕ → ℕ → ℕ → ℕ → ℕ → List ℕ
head_bytes version total h l m c =
    75 ∷ 66 ∷ []
    ++ bytes16 version ++ bytes16 total ++ bytes16 h ++ bytes16 l ++ bytes16 m ++ bytes16 c
    ++ bytes16 128 ++ bytes16 (128 + 8 * h) ++ bytes16 (128 + 8 * h + 8 * l) ++ bytes16 (128 + 8 * h + 8 * l + 20 * m)
    ++ bytes16 (128 + 8 * h + 8 * l + 20 * m + 4 * c)
    ++ (0 ∷ 0 ∷ 0 ∷ 0 ∷ [])

-- The length of a block.                                                                             (01, The block: length)
abbrev pub block_length : ℕ → ℕ → ℕ → ℕ → ℕ → ℕ
block_length h l m c text = 128 + 8 * h + 8 * l + 20 * m + 4 * c + text

-- Of header entries, lines, entries and comments that are given flat; and of a record.
abbrev pub flat_length : List Header → List Line → List Noted → List (List ℕ) → ℕ
flat_length hs ls es cs = block_length (length hs) (length ls) (length es) (length cs) (length (header_text hs) + length (comment_text cs))

abbrev pub formula_length : Record → ℕ
formula_length r = flat_length r.headers r.lines (entries_of r.lines) (comments_of (entries_of r.lines))

-- A block of header entries, lines, entries and comments that are given flat.
abbrev pub encode_flat : ℕ → List ℕ → List Header → List Line → List Noted → List (List ℕ) → List ℕ
encode_flat version position hs ls es cs =
    head_bytes version (flat_length hs ls es cs) (length hs) (length ls) (length es) (length cs)
    ++ position
    ++ table header_row header_step 0 hs
    ++ table line_row line_step 0 ls
    ++ table entry_row entry_step 0 es
    ++ table comment_row comment_step (length (header_text hs)) cs
    ++ header_text hs
    ++ comment_text cs

unfoldable pub encode : Record → List ℕ
encode r =
    encode_flat r.version (position_bytes r.position) r.headers r.lines (entries_of r.lines) (comments_of (entries_of r.lines))
