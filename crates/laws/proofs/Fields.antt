-- What is read off a block is what was written: the head, the rows and the texts of `encode r` stand where the block's own numbers say, since
-- each of these numbers is below 65536 and so is read back.
-- Assumes nothing.
use Prim.Native.Nat.{ℕ, suc, ◌+◌, ◌*◌, ◌≤◌, ◌<◌}
use native.Mathlib.Omega.{arith}
use mathlib.Core.Path.{◌≡◌, refl, sym, ap, ap₂, ◌∙◌}
use mathlib.Core.List.{List, [], ◌++◌, append_assoc}
use mathlib.Core.Bool.{Bool, true, false}
use lib.ListN.{length, get_or, take, drop, length-append}
use lib.Dec.{eqb}
use Rattle.lists.specs.Pick.{pick}
use Rattle.lent.specs.Bytes.{le16}
use Rattle.lent.proofs.Writes.{read16}
use Rattle.block.specs.EntryBytes.{entry_in}
use Rattle.block.specs.PositionBytes.{position_bytes}
use Rattle.jkf.specs.declared.Entry.TheVariants.{Slot}
use Rattle.jkf.specs.Model.{Header, Noted, Line, Record}
use Rattle.block.specs.Encode.{encode, head_bytes, block_length, table, concat, header_row, header_step, line_row, line_step, entry_row, entry_step, comment_row, comment_step, header_text, entries_of, comments_of, comment_text}
use Rattle.block.specs.Decode.{headers_in, lines_in, moves_in, comments_in, header_place, line_place, move_place, comment_place, text_place, key_offset, key_length, value_offset, value_length, start_of, first_entry, entry_count, parent_of, first_comment, comment_count, comment_offset, comment_length, key_of, value_of, comment_of}
use Rattle.block.specs.Formed.{header_of, line_of, noted_of}
use Rattle.block.proofs.Tabling.{after, table-cut, table-length, table_before, concat-cut, part_within, after_adds}
use Rattle.laws.proofs.Parts.{Part, part_from, From, front, past, whole_part, from_part, part_in, part_number, part_number₀}
use Rattle.block.proofs.RowPlaces.{header-wide, line-wide, entry-wide, comment-wide}
use Rattle.block.proofs.EntriesBack.{entry_back, first_back, count_back}
use Rattle.block.proofs.Lengths.{head-length, block-length}

-- all entries and all comments of a record
abbrev pub notes_of : Record → List Noted
notes_of r = entries_of r.lines

abbrev pub remarks_of : Record → List (List ℕ)
remarks_of r = comments_of (notes_of r)

-- the first comment of entry k, which is 0 where it has none
abbrev pub first_of : Record → ℕ → ℕ
first_of r k = pick (eqb (length (noted_of (notes_of r) k).comments) 0) 0 (length (comments_of (take k (notes_of r))))

abbrev pub remark_of : Record → ℕ → List ℕ
remark_of r k = get_or (remarks_of r) k []

-- what of a record has to fit: the block is at most 65535 bytes long, and the numbers that are no lengths or places are below 65536
pub record Fits (r : Record) : Type 0 where
  pub whole : length (position_bytes r.position) ≡ 100
  pub short : length (encode r) ≤ 65535
  pub version : r.version < 65536
  pub starts : (k : ℕ) → k < length r.lines → (line_of r.lines k).start < 65536
  pub parents : (k : ℕ) → k < length r.lines → (line_of r.lines k).parent < 65536

regroup : (a b c d e f g h : List ℕ) → a ++ b ++ c ++ d ++ e ++ f ++ g ++ h ≡ a ++ (b ++ (c ++ (d ++ (e ++ (f ++ (g ++ h))))))
regroup a b c d e f g h = simp append_assoc

abbrev pub no_header : Header
no_header = record { key = []; value = [] }

abbrev pub no_line : Line
no_line = record { start = 0; parent = 0; entries = [] }

abbrev pub no_noted : Noted
no_noted = record { what = Slot; comments = [] }

-- row k of a table whose state counts what the elements' parts are long, at a place and in a state that may be named otherwise
row_part : {X Y : Type 0} (row : ℕ → X → List ℕ) (step : ℕ → X → ℕ) (part : X → List Y) → ((s : ℕ) (x : X) → step s x ≡ s + length (part x))
    → (w : ℕ) → ((s : ℕ) (x : X) → length (row s x) ≡ w) → (d : X) (s : ℕ) (xs : List X) {b : List ℕ} {o n : ℕ} → Part b o n (table row step s xs)
    → (k : ℕ) → k < length xs → (p m : ℕ) → p ≡ o + w * k → m ≡ s + length (concat part (take k xs)) → Part b p w (row m (get_or xs k d))
row_part row step part adds w wide d s xs {b} {o} {n} t k h p m e₁ e₂ =
    let z : m ≡ after row step s (take k xs) = e₂ ∙ sym (after_adds row step part adds s (take k xs)) in
    let x = get_or xs k d in
    rw (e₁, z)
    (part_in (table row step s (take k xs)) (row (after row step s (take k xs)) x) (table row step (step (after row step s (take k xs)) x) (drop (suc k) xs)) (w * k) w t
    (table-cut row step d s xs k h) (table_before row step w wide s xs k (omega arith)) (wide (after row step s (take k xs)) x))

regroup_in : (p x y q : List ℕ) → p ++ (x ++ y ++ q) ≡ p ++ x ++ (y ++ q)
regroup_in p x y q = simp append_assoc

-- ---- the parts of a record's block

abbrev header_table : Record → List ℕ
header_table r = table header_row header_step 0 r.headers

abbrev line_table : Record → List ℕ
line_table r = table line_row line_step 0 r.lines

abbrev entry_table : Record → List ℕ
entry_table r = table entry_row entry_step 0 (notes_of r)

abbrev comment_table : Record → List ℕ
comment_table r = table comment_row comment_step (length (header_text r.headers)) (remarks_of r)

-- what comes after each
abbrev text_of : Record → List ℕ
text_of r = header_text r.headers ++ comment_text (remarks_of r)

abbrev past_entries : Record → List ℕ
past_entries r = comment_table r ++ text_of r

abbrev past_lines : Record → List ℕ
past_lines r = entry_table r ++ past_entries r

abbrev past_headers : Record → List ℕ
past_headers r = line_table r ++ past_lines r

abbrev past_position : Record → List ℕ
past_position r = header_table r ++ past_headers r

abbrev past_head : Record → List ℕ
past_head r = position_bytes r.position ++ past_position r

-- how long it is
abbrev pub length_of : Record → ℕ
length_of r =
    block_length (length r.headers) (length r.lines) (length (notes_of r)) (length (remarks_of r))
    (length (header_text r.headers) + length (comment_text (remarks_of r)))

abbrev pub head_of : Record → List ℕ
head_of r = head_bytes r.version (length_of r) (length r.headers) (length r.lines) (length (notes_of r)) (length (remarks_of r))

module _ (r : Record) (f : Fits r) where
  pub fits : length_of r ≤ 65535
  fits = omega (arith, block-length r f.whole, f.short)

  -- ---- where the parts stand

  from-head : From (encode r) 0 (head_of r ++ (past_head r))
  unfolding encode
  from-head =
      record {
        is =
            regroup (head_of r) (position_bytes r.position) (header_table r) (line_table r) (entry_table r) (comment_table r) (header_text r.headers)
            (comment_text (remarks_of r));
      }

  head-long : length (head_of r) ≡ 28
  head-long = head-length r.version (length_of r) (length r.headers) (length r.lines) (length (notes_of r)) (length (remarks_of r))

  from-position : From (encode r) 28 (past_head r)
  from-position = past (head_of r) 28 head-long from-head

  from-headers : From (encode r) 128 (past_position r)
  from-headers = past (position_bytes r.position) 100 f.whole from-position

  from-lines : From (encode r) (128 + 8 * length r.headers) (past_headers r)
  from-lines = past (header_table r) (8 * length r.headers) (table-length header_row header_step 8 header-wide 0 r.headers) from-headers

  from_entries : From (encode r) (128 + 8 * length r.headers + 8 * length r.lines) (past_lines r)
  from_entries = past (line_table r) (8 * length r.lines) (table-length line_row line_step 8 line-wide 0 r.lines) from-lines

  from-comments : From (encode r) (128 + 8 * length r.headers + 8 * length r.lines + 20 * length (notes_of r)) (past_entries r)
  from-comments = past (entry_table r) (20 * length (notes_of r)) (table-length entry_row entry_step 20 entry-wide 0 (notes_of r)) from_entries

  from_texts : From (encode r) (128 + 8 * length r.headers + 8 * length r.lines + 20 * length (notes_of r) + 4 * length (remarks_of r)) (text_of r)
  from_texts =
      past (comment_table r) (4 * length (remarks_of r)) (table-length comment_row comment_step 4 comment-wide (length (header_text r.headers)) (remarks_of r)) from-comments

  -- ---- the head

  pub head_part : Part (encode r) 0 28 (head_of r)
  head_part = front _ 28 head-long from-head

  pub head-begins : encode r ≡ head_of r ++ drop 28 (encode r)
  head-begins = (from_part head_part).is

  pub version_is : le16 (encode r) 2 ≡ r.version
  unfolding head_bytes
  version_is = ap (λ (l : List ℕ). le16 l 2) head-begins ∙ read16 r.version [] f.version

  pub length_is : le16 (encode r) 4 ≡ length (encode r)
  unfolding head_bytes
  length_is = ap (λ (l : List ℕ). le16 l 4) head-begins ∙ read16 (length_of r) [] (omega (arith, fits)) ∙ sym (block-length r f.whole)

  pub headers_are : headers_in (encode r) ≡ length r.headers
  unfolding head_bytes
  headers_are = ap (λ (l : List ℕ). le16 l 6) head-begins ∙ read16 (length r.headers) [] (omega (arith, fits))

  pub lines_are : lines_in (encode r) ≡ length r.lines
  unfolding head_bytes
  lines_are = ap (λ (l : List ℕ). le16 l 8) head-begins ∙ read16 (length r.lines) [] (omega (arith, fits))

  pub moves_are : moves_in (encode r) ≡ length (notes_of r)
  unfolding head_bytes
  moves_are = ap (λ (l : List ℕ). le16 l 10) head-begins ∙ read16 (length (notes_of r)) [] (omega (arith, fits))

  pub comments_are : comments_in (encode r) ≡ length (remarks_of r)
  unfolding head_bytes
  comments_are = ap (λ (l : List ℕ). le16 l 12) head-begins ∙ read16 (length (remarks_of r)) [] (omega (arith, fits))

  -- ---- the tables

  header-table : Part (encode r) 128 (8 * length r.headers) (header_table r)
  header-table = front _ (8 * length r.headers) (table-length header_row header_step 8 header-wide 0 r.headers) from-headers

  line-table : Part (encode r) (128 + 8 * length r.headers) (8 * length r.lines) (line_table r)
  line-table = front _ (8 * length r.lines) (table-length line_row line_step 8 line-wide 0 r.lines) from-lines

  entry-table : Part (encode r) (128 + 8 * length r.headers + 8 * length r.lines) (20 * length (notes_of r)) (entry_table r)
  entry-table = front _ (20 * length (notes_of r)) (table-length entry_row entry_step 20 entry-wide 0 (notes_of r)) from_entries

  comment-table : Part (encode r) (128 + 8 * length r.headers + 8 * length r.lines + 20 * length (notes_of r)) (4 * length (remarks_of r)) (comment_table r)
  comment-table =
      front _ (4 * length (remarks_of r)) (table-length comment_row comment_step 4 comment-wide (length (header_text r.headers)) (remarks_of r)) from-comments

  pub header-row : (k : ℕ) → k < length r.headers
      → Part (encode r) (header_place (encode r) k) 8 (header_row (length (header_text (take k r.headers))) (header_of r.headers k))
  header-row k h =
      row_part header_row header_step (λ (h : Header). h.key ++ h.value) (λ n h. omega (arith, length-append h.key h.value)) 8 header-wide no_header 0 r.headers
      header-table k h (header_place (encode r) k) (length (header_text (take k r.headers))) (omega arith) (omega arith)

  pub line-row : (k : ℕ) → k < length r.lines
      → Part (encode r) (line_place (encode r) k) 8 (line_row (length (entries_of (take k r.lines))) (line_of r.lines k))
  line-row k h =
      row_part line_row line_step (λ (l : Line). l.entries) (λ n l. refl) 8 line-wide no_line 0 r.lines
      line-table k h (line_place (encode r) k) (length (entries_of (take k r.lines))) (omega (arith, headers_are)) (omega arith)

  pub entry-row : (k : ℕ) → k < length (notes_of r)
      → Part (encode r) (move_place (encode r) k) 20 (entry_row (length (comments_of (take k (notes_of r)))) (noted_of (notes_of r) k))
  entry-row k h =
      row_part entry_row entry_step (λ (e : Noted). e.comments) (λ n e. refl) 20 entry-wide no_noted 0 (notes_of r)
      entry-table k h (move_place (encode r) k) (length (comments_of (take k (notes_of r)))) (omega (arith, headers_are, lines_are)) (omega arith)

  pub comment-row : (k : ℕ) → k < length (remarks_of r)
      → Part (encode r) (comment_place (encode r) k) 4 (comment_row (length (header_text r.headers) + length (comment_text (take k (remarks_of r)))) (remark_of r k))
  comment-row k h =
      row_part comment_row comment_step (λ (c : List ℕ). c) (λ n c. refl) 4 comment-wide [] (length (header_text r.headers)) (remarks_of r)
      comment-table k h (comment_place (encode r) k) (length (header_text r.headers) + length (comment_text (take k (remarks_of r)))) (omega (arith, headers_are, lines_are, moves_are)) refl

  -- ---- the texts

  text-place : 128 + 8 * length r.headers + 8 * length r.lines + 20 * length (notes_of r) + 4 * length (remarks_of r) ≡ text_place (encode r)
  text-place = omega (arith, headers_are, lines_are, moves_are, comments_are)

  header-text : Part (encode r) (text_place (encode r)) (length (header_text r.headers)) (header_text r.headers)
  header-text = part_from _ text-place (front _ (length (header_text r.headers)) refl from_texts)

  comment-text : Part (encode r) (text_place (encode r) + length (header_text r.headers)) (length (comment_text (remarks_of r))) (comment_text (remarks_of r))
  comment-text =
      part_from _ (ap (λ (n : ℕ). n + length (header_text r.headers)) text-place)
      (whole_part (past (header_text r.headers) (length (header_text r.headers)) refl from_texts))

  -- ---- the fields of header entry k

  header-small : (k : ℕ) → k < length r.headers
      → length (header_text (take k r.headers)) + (length (header_of r.headers k).key + length (header_of r.headers k).value) < 65536
  header-small k h =
      omega (
        arith,
        fits,
        part_within (λ (h : Header). h.key ++ h.value) no_header r.headers k h,
        length-append (header_of r.headers k).key (header_of r.headers k).value,
      )

  pub key-offset : (k : ℕ) → k < length r.headers → key_offset (encode r) k ≡ length (header_text (take k r.headers))
  key-offset k h = part_number₀ (header-row k h) ∙ read16 (length (header_text (take k r.headers))) [] (omega (arith, header-small k h))

  pub key-length : (k : ℕ) → k < length r.headers → key_length (encode r) k ≡ length (header_of r.headers k).key
  key-length k h = part_number 2 (header-row k h) ∙ read16 (length (header_of r.headers k).key) [] (omega (arith, header-small k h))

  pub value-offset : (k : ℕ) → k < length r.headers
      → value_offset (encode r) k ≡ length (header_text (take k r.headers)) + length (header_of r.headers k).key
  value-offset k h =
      part_number 4 (header-row k h)
      ∙ read16 (length (header_text (take k r.headers)) + length (header_of r.headers k).key) [] (omega (arith, header-small k h))

  pub value-length : (k : ℕ) → k < length r.headers → value_length (encode r) k ≡ length (header_of r.headers k).value
  value-length k h = part_number 6 (header-row k h) ∙ read16 (length (header_of r.headers k).value) [] (omega (arith, header-small k h))

  pub key_is : (k : ℕ) → k < length r.headers → key_of (encode r) k ≡ (header_of r.headers k).key
  unfolding key_of
  key_is k h =
      let p = header_text (take k r.headers) in
      let x = (header_of r.headers k).key in
      let y = (header_of r.headers k).value in
      let q = header_text (drop (suc k) r.headers) in
      let e : header_text r.headers ≡ p ++ (x ++ (y ++ q)) =
      concat-cut (λ (h : Header). h.key ++ h.value) no_header r.headers k h ∙ ap (λ (l : List ℕ). p ++ l) (append_assoc x y q) in
      ap₂ (λ (o n : ℕ). take n (drop (text_place (encode r) + o) (encode r))) (key-offset k h) (key-length k h)
      ∙ sym (part_in p x (y ++ q) (length p) (length x) header-text e refl refl).is

  pub value_is : (k : ℕ) → k < length r.headers → value_of (encode r) k ≡ (header_of r.headers k).value
  unfolding value_of
  value_is k h =
      let p = header_text (take k r.headers) in
      let x = (header_of r.headers k).key in
      let y = (header_of r.headers k).value in
      let q = header_text (drop (suc k) r.headers) in
      let e : header_text r.headers ≡ p ++ x ++ (y ++ q) =
      concat-cut (λ (h : Header). h.key ++ h.value) no_header r.headers k h ∙ regroup_in p x y q in
      ap₂ (λ (o n : ℕ). take n (drop (text_place (encode r) + o) (encode r))) (value-offset k h) (value-length k h)
      ∙ sym (part_in (p ++ x) y q (length p + length x) (length y) header-text e (length-append p x) refl).is

  -- ---- of line k

  line_small : (k : ℕ) → k < length r.lines → length (entries_of (take k r.lines)) + length (line_of r.lines k).entries ≤ length (notes_of r)
  line_small k h = part_within (λ (l : Line). l.entries) no_line r.lines k h

  pub start_is : (k : ℕ) → k < length r.lines → start_of (encode r) k ≡ (line_of r.lines k).start
  start_is k h = part_number₀ (line-row k h) ∙ read16 (line_of r.lines k).start [] (f.starts k h)

  pub first-entry : (k : ℕ) → k < length r.lines → first_entry (encode r) k ≡ length (entries_of (take k r.lines))
  first-entry k h =
      part_number 2 (line-row k h) ∙ read16 (length (entries_of (take k r.lines))) [] (omega (arith, fits, line_small k h))

  pub entry-count_is : (k : ℕ) → k < length r.lines → entry_count (encode r) k ≡ length (line_of r.lines k).entries
  entry-count_is k h =
      part_number 4 (line-row k h) ∙ read16 (length (line_of r.lines k).entries) [] (omega (arith, fits, line_small k h))

  pub parent_is : (k : ℕ) → k < length r.lines → parent_of (encode r) k ≡ (line_of r.lines k).parent
  parent_is k h = part_number 6 (line-row k h) ∙ read16 (line_of r.lines k).parent [] (f.parents k h)

  -- ---- of entry k

  entry-small : (k : ℕ) → k < length (notes_of r) → length (comments_of (take k (notes_of r))) + length (noted_of (notes_of r) k).comments ≤ length (remarks_of r)
  entry-small k h = part_within (λ (e : Noted). e.comments) no_noted (notes_of r) k h

  pub first-comment : (k : ℕ) → k < length (notes_of r)
      → first_comment (encode r) k ≡ first_of r k
  first-comment k h =
      part_number 16 (entry-row k h)
      ∙ first_back (noted_of (notes_of r) k).what (first_of r k) (length (noted_of (notes_of r) k).comments) _
      (small (eqb (length (noted_of (notes_of r) k).comments) 0))
    where
      small : (t : Bool) → pick t 0 (length (comments_of (take k (notes_of r)))) < 65536
      small true = omega arith
      small false = omega (arith, fits, entry-small k h)

  pub comment-count_is : (k : ℕ) → k < length (notes_of r) → comment_count (encode r) k ≡ length (noted_of (notes_of r) k).comments
  comment-count_is k h =
      part_number 18 (entry-row k h)
      ∙ count_back (noted_of (notes_of r) k).what (first_of r k) (length (noted_of (notes_of r) k).comments) _
      (omega (arith, fits, entry-small k h))

  pub what_is : (k : ℕ) → k < length (notes_of r) → entry_in (drop (move_place (encode r) k) (encode r)) ≡ (noted_of (notes_of r) k).what
  what_is k h =
      ap entry_in (from_part (entry-row k h)).is
      ∙ entry_back (noted_of (notes_of r) k).what (first_of r k) (length (noted_of (notes_of r) k).comments) _

  -- ---- of comment k

  comment-small : (k : ℕ) → k < length (remarks_of r) → length (comment_text (take k (remarks_of r))) + length (remark_of r k) ≤ length (comment_text (remarks_of r))
  comment-small k h = part_within (λ (c : List ℕ). c) [] (remarks_of r) k h

  pub comment-offset : (k : ℕ) → k < length (remarks_of r)
      → comment_offset (encode r) k ≡ length (header_text r.headers) + length (comment_text (take k (remarks_of r)))
  comment-offset k h =
      part_number₀ (comment-row k h)
      ∙ read16 (length (header_text r.headers) + length (comment_text (take k (remarks_of r)))) [] (omega (arith, fits, comment-small k h))

  pub comment-length : (k : ℕ) → k < length (remarks_of r) → comment_length (encode r) k ≡ length (remark_of r k)
  comment-length k h = part_number 2 (comment-row k h) ∙ read16 (length (remark_of r k)) [] (omega (arith, fits, comment-small k h))

  pub comment_is : (k : ℕ) → k < length (remarks_of r) → comment_of (encode r) k ≡ remark_of r k
  unfolding comment_of
  comment_is k h =
      let p = comment_text (take k (remarks_of r)) in
      let x = remark_of r k in
      let q = comment_text (drop (suc k) (remarks_of r)) in
      let e : text_place (encode r) + comment_offset (encode r) k ≡ text_place (encode r) + length (header_text r.headers) + length p = omega (arith, comment-offset k h) in
      ap₂ (λ (o n : ℕ). take n (drop o (encode r))) e (comment-length k h)
      ∙ sym (part_in p x q (length p) (length x) comment-text (concat-cut (λ (c : List ℕ). c) [] (remarks_of r) k h) refl refl).is

  -- ---- the position

  pub position_part : Part (encode r) 28 100 (position_bytes r.position)
  position_part = front _ 100 f.whole from-position
