-- What was written reads back: `fill` of a text that loses nothing answers the block of the record, and of the plain text, which is such a text of
-- what it says, the block of that, as version 1 and where no entry of the lines that are written has two variations.
-- Assumes nothing.
use Rattle.std.specs.Prelude.{None}
use Prim.Native.Nat.{ℕ, ◌+◌, ◌*◌, ◌≤◌, ◌<◌}
use native.Mathlib.Omega.{arith}
use mathlib.Core.Path.{◌≡◌, refl, sym, ap, ◌∙◌, subst}
use mathlib.Core.List.{List, [], ◌∷◌, ◌++◌, map}
use lib.ListN.{length, get_or, take, drop, length-map, length-append, take-append-drop}
use borrow.Author.Tests.{le-ltb}
use Rattle.lists.specs.All.{All, none, next}
use Rattle.text.specs.Utf8.{well_formed_bytes}
use Rattle.jkf.specs.Answers.{Outcome}
use Rattle.jkf.specs.declared.Answer.TheVariants.{Done}
use Rattle.jkf.specs.Model.{Noted, Line, Record, Header}
use Rattle.jkf.specs.Attaching.{attach, all, all_hung}
use Rattle.block.specs.Encode.{concat, encode, entries_of, comments_of, comment_text, flat_length}
use Rattle.block.specs.Formed.{Formed}
use Rattle.block.proofs.Tabling.{concat-append}
use Rattle.block.proofs.Lengths.{block-length}
use Rattle.filling.specs.Filling.{at_front}
use Rattle.parser.specs.Parse.{parse, record_of, needed}
use Rattle.parser.specs.Read.{filled_with, read_stored, early_of, faultless, fill_of}
use Rattle.converter.specs.declared.Mode.{Mode}
use Rattle.converter.specs.declared.Mode.TheVariants.{Plain, Whole, Shared}
use Rattle.converter.specs.Said.{said_noted, said_line, said_lines, said_record}
use Rattle.converter.specs.Show.{hands_obstacle}
use Rattle.edit.specs.Edit.{plays_in}
use Rattle.edit.proofs.Afresh.{back_nests, back_2}
use Rattle.parser.proofs.Alls.{index_all}
use Rattle.laws.proofs.Decoded.{formed_fits}
use Rattle.laws.proofs.Fields.{fits}
use Rattle.laws.specs.Modes.{text_in, as_read, kept_in, SingleIn, LosesNothing, whole, shared}
use Rattle.laws.specs.Sayable.{Sayable, ColorsFollow}
use Rattle.laws.specs.Back.{parsed_of, read_into}
use Rattle.laws.proofs.Back.Texts.{RecordFits, parse_back}
use Rattle.laws.proofs.Back.SaidTwice.{plain_is_whole}
use Rattle.laws.proofs.Back.Shown.{shown-all, shown-same}
use Rattle.laws.proofs.Back.Fits.{shown_lines, record_fitted}
use Rattle.laws.proofs.Back.Characters.{Chars, chars_well, well_chars, chars_small}
use Rattle.laws.proofs.Back.WellFormed.{NotesValid, LinesValid, HeaderValid, text_chars}
use Rattle.laws.proofs.Back.Said.{said_fits, taken_of, Hung, said_hung}

-- ---- texts are valid

all_split : {A B : Type 0} {P : B → Type 0} (f : A → List B) (xs : List A) → All P (concat f xs) → All (λ x. All P (f x)) xs
unfolding concat
all_split f [] h = none
all_split f (x ∷ xs) h = let (p, q) = apart (f x) h in next p (all_split f xs q)
  where
    apart : {B : Type 0} {P : B → Type 0} (l : List B) {m : List B} → All P (l ++ m) → All P l × All P m
    apart [] h = (none, h)
    apart (y ∷ l) (next p h) = let (a, b) = apart l h in (next p a, b)

comments-valid : (r : Record) → Formed r → LinesValid r.lines
comments-valid r g =
    all_split (λ (l : Line). l.entries) r.lines
    (all_split (λ (e : Noted). e.comments) (entries_of r.lines)
    (index_all Chars [] (comments_of (entries_of r.lines)) (λ k h. well_chars _ (g.comments k h))))

headers-valid : (r : Record) → Formed r → All HeaderValid r.headers
headers-valid r g =
    index_all HeaderValid (record { key = []; value = [] }) r.headers (λ k h. record { key = well_chars _ (g.headers k h).0; value = well_chars _ (g.headers k h).1.0 })

module _ (mode : Mode) where
  notes_said : {es : List Noted} → NotesValid es → NotesValid (map (said_noted mode) es)
  unfolding said_noted
  notes_said none = none
  notes_said (next p h) = next p (notes_said h)

  lines-said : {ls : List Line} → LinesValid ls → LinesValid (map (said_line mode) ls)
  unfolding said_line
  lines-said none = none
  lines-said (next p h) = next (notes_said p) (lines-said h)

  said-valid : {ls : List Line} → LinesValid ls → LinesValid (said_lines mode ls)
  unfolding said_lines said_line
  said-valid none = none
  said-valid (next p h) = next (notes_said p) (lines-said (shown-all h))

  said_chars : (r : Record) → All HeaderValid r.headers → LinesValid r.lines → Chars (text_in mode r)
  unfolding said_record
  said_chars r hs ls = text_chars (said_record mode r) hs (said-valid ls)

-- ---- the block is no longer

map-append : {A B : Type 0} (f : A → B) (l m : List A) → map f (l ++ m) ≡ map f l ++ map f m
map-append f [] m = refl
map-append f (x ∷ l) m = ap (λ k. f x ∷ k) (map-append f l m)

entries-said : (ls : List Line) → entries_of (map (said_line Plain) ls) ≡ map (said_noted Plain) (entries_of ls)
unfolding concat said_line
entries-said [] = refl
entries-said (l ∷ ls) = ap (λ (k : List Noted). map (said_noted Plain) l.entries ++ k) (entries-said ls) ∙ sym (map-append (said_noted Plain) l.entries (entries_of ls))

comments-said : (es : List Noted) → comments_of (map (said_noted Plain) es) ≡ comments_of es
unfolding concat said_noted
comments-said [] = refl
comments-said (e ∷ es) = ap (λ (k : List (List ℕ)). e.comments ++ k) (comments-said es)

-- what lines, entries and comments take
abbrev weight : List Line → ℕ
weight ls = 8 * length ls + 20 * length (entries_of ls) + 4 * length (comments_of (entries_of ls)) + length (comment_text (comments_of (entries_of ls)))

weight_said : (ls : List Line) → weight (map (said_line Plain) ls) ≡ weight ls
weight_said ls =
    let e : comments_of (entries_of (map (said_line Plain) ls)) ≡ comments_of (entries_of ls) = ap comments_of (entries-said ls) ∙ comments-said (entries_of ls) in
    omega (
      arith,
      length-map ls (said_line Plain),
      ap length (entries-said ls),
      length-map (entries_of ls) (said_noted Plain),
      ap length e,
      ap (λ (cs : List (List ℕ)). length (comment_text cs)) e,
    )

weight_append : (a b : List Line) → weight a ≤ weight (a ++ b)
weight_append a b =
    let e₁ : entries_of (a ++ b) ≡ entries_of a ++ entries_of b = concat-append (λ (l : Line). l.entries) a b in
    let e₂ : comments_of (entries_of (a ++ b)) ≡ comments_of (entries_of a) ++ comments_of (entries_of b) = ap comments_of e₁ ∙ concat-append (λ (e : Noted). e.comments) (entries_of a) (entries_of b) in
    let e₃ : comment_text (comments_of (entries_of (a ++ b))) ≡ comment_text (comments_of (entries_of a)) ++ comment_text (comments_of (entries_of b)) =
    ap comment_text e₂ ∙ concat-append (λ (c : List ℕ). c) (comments_of (entries_of a)) (comments_of (entries_of b)) in
    omega (
      arith,
      length-append a b,
      ap length e₁,
      length-append (entries_of a) (entries_of b),
      ap length e₂,
      length-append (comments_of (entries_of a)) (comments_of (entries_of b)),
      ap length e₃,
      length-append (comment_text (comments_of (entries_of a))) (comment_text (comments_of (entries_of b))),
    )

weight_less : (ls : List Line) → 1 ≤ length ls → weight (said_lines Plain ls) ≤ weight ls
weight_less ls h =
    let t = taken_of ls h in
    omega (arith, ap weight t.is, weight_said (take t.n ls), weight_append (take t.n ls) (drop t.n ls), ap weight (take-append-drop t.n ls))

-- ---- a text in which nothing is lost is read

-- how long a block of these header entries and lines is
abbrev long_by : List Header → List Line → ℕ
long_by hs ls = flat_length hs ls (entries_of ls) (comments_of (entries_of ls))

-- lines that all hang, where the attaching rule hangs them
pub record Attached (ls : List Line) : Type 0 where
  pub hung : all_hung (plays_in ls) ≡ all
  pub same : attach (plays_in ls) ≡ ls

module _ (r : Record) (f : RecordFits r) (a : Attached r.lines) (hs : All HeaderValid r.headers) (ls : LinesValid r.lines) where
  -- the record of what is said is the record, as version 1
  record_back : (n : ℕ) → record_of (parsed_of r n) ≡ as_read r
  record_back n = ap (λ (l : List Line). record { version = 1; headers = r.headers; position = r.position; lines = l }) a.same

  needed_back : (n : ℕ) → needed (parsed_of r n) ≡ long_by r.headers r.lines
  unfolding needed
  needed_back n = ap (long_by r.headers) a.same

  module _ (fits : long_by r.headers r.lines ≤ 65535) (o : List ℕ) (room : long_by r.headers r.lines ≤ length o) where
    -- what `fill` answers
    abbrev answered : ℕ → Outcome
    answered n = record { answer = Done n (long_by r.headers r.lines); buffer = at_front (encode (as_read r)) o }

    filled_back : (n : ℕ) → filled_with (parsed_of r n) o ≡ answered n
    unfolding filled_with
    filled_back n = rw (a.hung, needed_back n, record_back n)

    stored_back : (n : ℕ) → read_stored (parsed_of r n) o ≡ answered n
    unfolding read_stored
    stored_back n = rw (needed_back n, le-ltb 65535 (long_by r.headers r.lines) fits, le-ltb (length o) (long_by r.headers r.lines) room) (filled_back n)

    pub text-read : {mode : Mode} → LosesNothing mode → length (text_in mode r) ≤ 65535 → fill_of (text_in mode r) o ≡ answered (length (text_in mode r))
    unfolding fill_of early_of faultless
    text-read {mode} n short =
        let (p, q) = parse_back n r f in
        let w : well_formed_bytes (text_in mode r) ≡ length (text_in mode r) = chars_well (said_chars mode r hs ls) in
        rw (le-ltb 65535 (length (text_in mode r)) short, w, le-ltb (length (text_in mode r)) (length (text_in mode r)) (omega arith), q, p) (stored_back (length (text_in mode r)))

-- ---- a well-formed record

-- the lines that are kept hang as its version asks
formed_hung : (r : Record) → Formed r → Hung r.version r.lines
formed_hung r g = record { some = g.some; hangs = λ k h. (g.lines k h).1; full = λ k h. (g.lines k h).0 }

pub kept_hung : (mode : Mode) (r : Record) → Formed r → Hung r.version (kept_in mode r).lines
unfolding said_record
kept_hung Plain r g = said_hung (formed_hung r g)
kept_hung Whole r g = formed_hung r g
kept_hung Shared r g = formed_hung r g

-- so they all hang, and where no entry has two, where they did
pub kept_attached : (mode : Mode) (r : Record) → Hung r.version (kept_in mode r).lines → SingleIn mode r → Attached (kept_in mode r).lines
kept_attached mode r h single =
    record {
      hung = back_nests (kept_in mode r).lines h.some r.version h.hangs h.full;
      same = (back_2 (kept_in mode r).lines h.some r.version h.hangs h.full).0 single;
    }

-- of a text that loses nothing they are the record's
all_attached : {mode : Mode} → LosesNothing mode → (r : Record) → Formed r → SingleIn mode r → Attached r.lines
all_attached whole r g single = kept_attached Whole r (kept_hung Whole r g) single
all_attached shared r g single = kept_attached Shared r (kept_hung Shared r g) single

module _ (r : Record) (g : Formed r) (s : Sayable r) (c : ColorsFollow r) (h : hands_obstacle r.position ≡ None) where
  -- it is fit to be read back where no variation starts at 0, and what the plain text says of it always is
  pub all_fit : All (λ l. 0 < l.start) (drop 1 r.lines) → RecordFits r
  all_fit z = subst RecordFits (shown_is r.lines z) (record_fitted r g s c h)
    where
      with : List Line → Record
      with ls = record { version = r.version; headers = r.headers; position = r.position; lines = ls }

      shown_is : (ls : List Line) → All (λ l. 0 < l.start) (drop 1 ls) → with (shown_lines ls) ≡ with ls
      shown_is [] z = refl
      shown_is (l ∷ ls) z = ap (λ (k : List Line). with (l ∷ k)) (shown-same z)

  pub plain_fit : RecordFits (said_record Plain r)
  plain_fit = said_fits r (record_fitted r g s c h)

  -- a text that loses nothing                                                                            (02, xi)
  pub all_back : {mode : Mode} → LosesNothing mode → SingleIn mode r → All (λ l. 0 < l.start) (drop 1 r.lines) → length (text_in mode r) ≤ 65535 → (o : List ℕ)
      → length (encode (as_read r)) ≤ length o → fill_of (text_in mode r) o ≡ read_into (length (text_in mode r)) (as_read r) o
  all_back {mode} n single z short o room =
      let w = formed_fits r g in
      let e : length (encode (as_read r)) ≡ long_by r.headers r.lines = block-length (as_read r) w.whole in
      text-read r (all_fit z) (all_attached n r g single) (headers-valid r g) (comments-valid r g) (omega (arith, block-length r w.whole, g.short)) o (omega arith) n short
      ∙ ap (λ (k : ℕ). record { answer = Done (length (text_in mode r)) k; buffer = at_front (encode (as_read r)) o }) (sym e)

  plain-valid : LinesValid (said_record Plain r).lines
  unfolding said_record
  plain-valid = said-valid Plain (comments-valid r g)

  module _ (single : SingleIn Plain r) where
    plain_attached : Attached (kept_in Plain r).lines
    plain_attached = kept_attached Plain r (kept_hung Plain r g) single

    -- the plain text                                                                                       (01, Writing, and what is lost)
    pub plain_back : length (text_in Plain r) ≤ 65535 → (o : List ℕ) → length (encode (kept_in Plain r)) ≤ length o
        → fill_of (text_in Plain r) o ≡ read_into (length (text_in Plain r)) (kept_in Plain r) o
    unfolding said_record
    plain_back short o room =
        let w = formed_fits r g in
        let e : length (encode (kept_in Plain r)) ≡ long_by r.headers (said_lines Plain r.lines) = block-length (kept_in Plain r) w.whole in
        let m : long_by r.headers (said_lines Plain r.lines) ≤ 65535 = omega (arith, weight_less r.lines g.some, fits r w) in
        rw (← plain_is_whole r)
        (text-read (said_record Plain r) plain_fit plain_attached (headers-valid r g) plain-valid m o (omega arith) whole
        (subst (λ (t : List ℕ). length t ≤ 65535) (sym (plain_is_whole r)) short)
        ∙ ap (λ (k : ℕ). record { answer = Done (length (text_in Whole (said_record Plain r))) k; buffer = at_front (encode (kept_in Plain r)) o }) (sym e))

    -- the record that it says
    pub plain-said : record_of (parse (text_in Plain r)) ≡ kept_in Plain r
    unfolding said_record
    plain-said =
        rw (← plain_is_whole r)
        (ap record_of (parse_back whole (said_record Plain r) plain_fit).0
        ∙ record_back (said_record Plain r) plain_fit plain_attached (headers-valid r g) plain-valid (length (text_in Whole (said_record Plain r))))

  -- its bytes are bytes
  pub plain-bytes : (k : ℕ) → get_or (text_in Plain r) k 0 < 256
  plain-bytes = chars_small (said_chars Plain r (headers-valid r g) (comments-valid r g))
