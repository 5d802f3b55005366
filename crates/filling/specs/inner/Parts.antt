-- The parts of a block that grow: the texts of their regions, that there is room for them, and that they were filled in.
-- Assumes nothing: these are definitions.
use Rattle.std.specs.Prelude.{ℕ, ◌+◌, ◌*◌, ◌≤◌, ◌<◌, ◌≡◌, List, [], ◌∷◌, length, Option, Some, None, Result, Ok, Err}
use Rattle.lent.specs.inner.Regions.{Filled, Room}
use Rattle.jkf.specs.Model.{Header, Noted, Line}
use Rattle.block.specs.Encode.{table, header_row, header_step, header_text, line_row, line_step, entry_row, entry_step, comment_row, comment_step, entries_of, comments_of, comment_text}
use Rattle.filling.specs.declared.Walk.{Walk}
use Rattle.jkf.specs.declared.Answer.{Answer}
use Rattle.jkf.specs.declared.Position.{Position}
use Rattle.filling.specs.declared.Sizes.{Sizes}
use Rattle.filling.specs.Filling.{length_of, begun, front_put, Grown, put_header, put_all}

-- ---- the texts of the regions

-- Header rows, and keys with their values, after so many bytes of text.
abbrev pub header_texts : ℕ → List Header → List (List ℕ)
header_texts bytes hs = table header_row header_step bytes hs ∷ header_text hs ∷ []

-- Comment rows and comments, after so many bytes of text.
abbrev pub comment_texts : ℕ → List (List ℕ) → List (List ℕ)
comment_texts bytes cs = table comment_row comment_step bytes cs ∷ comment_text cs ∷ []

-- Entries, after so many comments and bytes of text.
abbrev pub entry_texts : ℕ → ℕ → List Noted → List (List ℕ)
entry_texts noted bytes es = table entry_row entry_step noted es ∷ comment_texts bytes (comments_of es)

-- Lines, after so many entries, comments and bytes of text.
abbrev pub line_texts : ℕ → ℕ → ℕ → List Line → List (List ℕ)
line_texts entries noted bytes ls = table line_row line_step entries ls ∷ entry_texts noted bytes (entries_of ls)

-- ---- where they end

abbrev pub header_ends : Walk → List ℕ
header_ends w = w.headers ∷ w.text ∷ []

abbrev pub comment_ends : Walk → List ℕ
comment_ends w = w.comments ∷ w.text ∷ []

abbrev pub entry_ends : Walk → List ℕ
entry_ends w = w.moves ∷ comment_ends w

abbrev pub line_ends : Walk → List ℕ
line_ends w = w.lines ∷ entry_ends w

-- ---- room for them, and numbers that do not overflow

pub record HeadersFit (hs : List Header) (w : Walk) (o : List ℕ) : Type 0 where
  pub bytes : w.bytes + length (header_text hs) < 18446744073709551616
  pub room : Room (length o) (header_ends w) (header_texts w.bytes hs)

pub record CommentsFit (cs : List (List ℕ)) (w : Walk) (o : List ℕ) : Type 0 where
  pub noted : w.noted + length cs < 18446744073709551616
  pub bytes : w.bytes + length (comment_text cs) < 18446744073709551616
  pub room : Room (length o) (comment_ends w) (comment_texts w.bytes cs)

pub record EntriesFit (es : List Noted) (w : Walk) (o : List ℕ) : Type 0 where
  pub entries : w.entries + length es < 18446744073709551616
  pub noted : w.noted + length (comments_of es) < 18446744073709551616
  pub bytes : w.bytes + length (comment_text (comments_of es)) < 18446744073709551616
  pub room : Room (length o) (entry_ends w) (entry_texts w.noted w.bytes es)

-- Room for one line more.
pub record LineFits (x : Line) (w : Walk) (o : List ℕ) : Type 0 where
  pub entries : w.entries + length x.entries < 18446744073709551616
  pub noted : w.noted + length (comments_of x.entries) < 18446744073709551616
  pub bytes : w.bytes + length (comment_text (comments_of x.entries)) < 18446744073709551616
  pub room : Room (length o) (line_ends w) (line_texts w.entries w.noted w.bytes (x ∷ []))

-- Room for lines, of which none is filled in yet; numbers of 16 bits do for them.
pub record LinesFit (ls : List Line) (w : Walk) (o : List ℕ) : Type 0 where
  pub none : w.entries ≡ 0
  pub unnoted : w.noted ≡ 0
  pub lines : w.lines + 8 * length ls ≤ 65535
  pub entries : length (entries_of ls) ≤ 65535
  pub comments : length (comments_of (entries_of ls)) ≤ 65535
  pub bytes : w.bytes + length (comment_text (comments_of (entries_of ls))) ≤ 65535
  pub room : Room (length o) (line_ends w) (line_texts 0 0 w.bytes ls)

-- ---- filled in: the regions grew, the numbers with them, and nothing else changed

pub record Headed (hs : List Header) (w r : Walk) (o o' : List ℕ) : Type 0 where
  pub filled : Filled (header_texts w.bytes hs) o o' (header_ends w) (header_ends r)
  pub lines : r.lines ≡ w.lines
  pub moves : r.moves ≡ w.moves
  pub comments : r.comments ≡ w.comments
  pub entries : r.entries ≡ w.entries
  pub noted : r.noted ≡ w.noted
  pub bytes : r.bytes ≡ w.bytes + length (header_text hs)

pub record Commented (cs : List (List ℕ)) (w r : Walk) (o o' : List ℕ) : Type 0 where
  pub filled : Filled (comment_texts w.bytes cs) o o' (comment_ends w) (comment_ends r)
  pub lines : r.lines ≡ w.lines
  pub moves : r.moves ≡ w.moves
  pub entries : r.entries ≡ w.entries
  pub noted : r.noted ≡ w.noted + length cs
  pub bytes : r.bytes ≡ w.bytes + length (comment_text cs)

pub record Entered (es : List Noted) (w r : Walk) (o o' : List ℕ) : Type 0 where
  pub filled : Filled (entry_texts w.noted w.bytes es) o o' (entry_ends w) (entry_ends r)
  pub lines : r.lines ≡ w.lines
  pub entries : r.entries ≡ w.entries + length es
  pub noted : r.noted ≡ w.noted + length (comments_of es)
  pub bytes : r.bytes ≡ w.bytes + length (comment_text (comments_of es))

pub record Lined (ls : List Line) (w r : Walk) (o o' : List ℕ) : Type 0 where
  pub filled : Filled (line_texts w.entries w.noted w.bytes ls) o o' (line_ends w) (line_ends r)
  pub entries : r.entries ≡ w.entries + length (entries_of ls)
  pub noted : r.noted ≡ w.noted + length (comments_of (entries_of ls))
  pub bytes : r.bytes ≡ w.bytes + length (comment_text (comments_of (entries_of ls)))

-- The sizes of a block with these header entries and lines.
abbrev pub sizes_of : List Header → List Line → Sizes
sizes_of hs ls =
    record {
      headers = length hs;
      lines = length ls;
      entries = length (entries_of ls);
      comments = length (comments_of (entries_of ls));
      bytes = length (header_text hs) + length (comment_text (comments_of (entries_of ls)));
    }

abbrev pub on_opening : {A : Type 0} → Result (Walk × ℕ) Answer → (Walk → ℕ → A) → (Answer → A) → A
on_opening (Ok (w, n)) f g = f w n
on_opening (Err a) f g = g a

abbrev pub on_hooked : {A : Type 0} → Option Walk → (Walk → A) → A → A
on_hooked (Some w) f d = f w
on_hooked None f d = d

abbrev pub put_headers : List Header → Walk → List ℕ → Grown
put_headers = put_all put_header

-- A block of these sizes fits, is begun, and its front is filled into what was in the buffer before.
pub record Opens (version : ℕ) (z : Sizes) (p : Position) (w : Walk) (n : ℕ) (o o₁ : List ℕ) : Type 0 where
  pub walk : w ≡ begun z
  pub total : n ≡ length_of z
  pub short : length_of z ≤ 65535
  pub room : length_of z ≤ length o
  pub front : o₁ ≡ front_put version z p o
