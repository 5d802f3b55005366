-- A sound block's record with other lines is well formed, as either version, where the first of them begins with the slot, no other entry is a slot,
-- every entry can stand in a block, and the lines hang as the version asks; and the lines of a sound block and of a variation's text are such
-- lines.
--     relined-formed           the record with such lines
--     block-lines, text-line   the lines of a block, and of a text
-- Assumes nothing.
use Prim.Native.Nat.{ℕ, zero, suc, ◌+◌, ◌-◌, ◌≤◌, ◌<◌}
use native.Mathlib.Nat.{zero-add}
use native.Mathlib.Omega.{arith}
use mathlib.Core.Path.{◌≡◌, refl, sym, ap, ap₂, ◌∙◌, subst}
use mathlib.Core.List.{List, [], ◌∷◌, ◌++◌}
use mathlib.Core.Bool.{Bool, true, false}
use lib.ListN.{length, take, drop, length-drop}
use lib.Seq.{get_or-drop}
use lib.Dec.{eqb, ltb}
use borrow.Author.Tests.{ltb-true, lt-ltb, ne_eqb}
use Rattle.lists.specs.All.{All, Led, leads}
use Rattle.lists.specs.Pick.{pick}
use Rattle.lists.specs.Test.{each, claim}
use Rattle.lists.proofs.Laws.{by_pick}
use Rattle.lent.specs.Bytes.{bytes16}
use Rattle.block.specs.EntryBytes.{time_bytes, entry_head, entry_bytes}
use Rattle.jkf.specs.Entries.{time_of}
use Rattle.block.specs.PositionBytes.{position_bytes, position_in}
use Rattle.jkf.specs.declared.Entry.{Entry}
use Rattle.jkf.specs.declared.Entry.TheVariants.{Slot, Moved, End}
use Rattle.block.proofs.ByteArrays.{bytes-length}
use Rattle.jkf.specs.Model.{Header, Noted, Line}
use Rattle.jkf.specs.Trees.{is_version}
use Rattle.block.specs.Encode.{encode, entry_row, entry_step, entries_of, comments_of, header_text}
use Rattle.block.specs.Decode.{decode, run, headers_in, lines_in, moves_in, comments_in, move_place, text_place, key_offset, key_length, value_offset, value_length, first_entry, entry_count, first_comment, comment_count, comment_offset, comment_length, stored_text, key_of, value_of, comment_of, header_in, noted_in, line_in}
use Rattle.text.specs.Text.{before}
use Rattle.block.specs.inner.Sounds.{Sound}
use Rattle.block.specs.Sound.{valid, kind_test, comments_before}
use Rattle.block.specs.Formed.{header_of, line_of, noted_of, header_fits, Formed}
use Rattle.block.proofs.Sums.{sum-within}
use Rattle.block.proofs.Tabling.{length_run, run-get_or}
use Rattle.block.proofs.Within.{first-comment, some-entry, entries-within, first-none}
use Rattle.moves.proofs.Answers.{line_is}
use Rattle.moves.proofs.Fits.{move-line-fits}
use Rattle.laws.proofs.EntryBytes.{entry-bytes-small}
use Rattle.moves.proofs.Smalls.{Bytes as AllBytes, empty, each as eachByte, bytes-at, bytes-from, bytes_take, bytes_drop, bytes-join, bytes_16}
use Rattle.parser.proofs.Alls.{all-at, all-concat}
use Rattle.moves.proofs.Worded.{remark_well}
use Rattle.edit.specs.Edit.{is_variation, variation_of, line_on}
use Rattle.edit.specs.inner.Splicing.{relined}
use Rattle.edit.proofs.Listing.{LinesAs}
use Rattle.edit.proofs.Runs.{first_is}
use Rattle.edit.proofs.Texts.{variation_says}
use Rattle.laws.specs.Blocks.{Bytes}
use Rattle.laws.proofs.Positions.{position-bytes}
use Rattle.laws.proofs.Held.{entry_is}
use Rattle.laws.proofs.Playing.{comments-all, entries-all, later-kind}
use Rattle.laws.proofs.Smalling.{bytes-concat, bytes-table, lines-bytes, remarks_bytes}
use Rattle.laws.proofs.Heading.{headers-bytes}
use Rattle.laws.proofs.Forming.{head-bytes}
use Rattle.laws.proofs.Firsts.{all_so, all-run, led_run, led_concat, led_so}

-- ---- entries and lines that can stand in a block

-- its 20 bytes are bytes, whichever its first comment, and its comments are texts
pub record Stands (e : Noted) : Type 0 where
  pub row : (n : ℕ) → AllBytes (entry_row n e)
  pub valids : All (λ c. claim (valid c)) e.comments
  pub texts : All AllBytes e.comments

-- the slot, and an entry that is none
abbrev pub First : Noted → Type 0
First e = Stands e × (e.what ≡ Slot)

abbrev pub Later : Noted → Type 0
Later e = Stands e × claim (kind_test 1 e.what)

-- the main line, and a variation
abbrev pub Main : Line → Type 0
Main l = Led First Later l.entries

pub record Side (l : Line) : Type 0 where
  pub some : 1 ≤ length l.entries
  pub each : All Later l.entries

abbrev pub Standing : List Line → Type 0
Standing ls = Led Main Side ls

-- ---- the record with other lines

-- after the first entry it does not matter which an entry is
kind-same : (j k : ℕ) (e : Entry) → 0 < j → 0 < k → claim (kind_test j e) → claim (kind_test k e)
kind-same j k Slot y z h = absurd (omega arith)
kind-same j k (Moved m) y z h = (omega arith, h.1)
kind-same j k (End x t) y z h = omega arith

kinds : (es : List Noted) → Led First Later es → claim (each (length es) (λ k. kind_test k (noted_of es k).what))
kinds [] x'' k l = elim x'' [ ]
kinds (x ∷ es) (leads p h) zero l = subst (λ (e : Entry). claim (kind_test 0 e)) (sym p.1) refl
kinds (x ∷ es) (leads p h) (suc k) l =
    let w = all-at (record { what = Slot; comments = [] }) h k (omega arith) in
    kind-same 1 (suc k) (noted_of es k).what (omega arith) (omega arith) w.1

line-some : {es : List Noted} → Led First Later es → 1 ≤ length es
line-some (leads a h) = omega arith

pub some-each : (ls : List Line) → Standing ls → (k : ℕ) → k < length ls → 1 ≤ length (line_of ls k).entries
some-each ls h k l =
    all-at (record { start = 0; parent = 0; entries = [] }) (led_so {R = λ x. 1 ≤ length x.entries} (λ x m. line-some m) (λ x m. m.some) h) k l

all-entries : (ls : List Line) → Standing ls → Led First Later (entries_of ls)
all-entries ls h = led_concat (λ (x : Line). x.entries) (entered h)
  where
    entered : {l : List Line} → Standing l → Led (λ x. Led First Later x.entries) (λ x. All Later x.entries) l
    entered (leads m h) = leads m (all_so (λ x y. y.each) h)

all_stand : (ls : List Line) → Standing ls → All Stands (entries_of ls)
all_stand ls h = led_so (λ e x. x.0) (λ e x. x.0) (all-entries ls h)

-- ---- an entry of a block

-- its 20 bytes with other numbers of comments
other_row : (e : Entry) (f n g m : ℕ) → AllBytes (entry_bytes e f n) → AllBytes (entry_bytes e g m)
unfolding entry_bytes
other_row e f n g m h =
    let l = entry_head e ++ time_bytes (time_of e) ++ (0 ∷ []) in
    bytes-join (bytes-join (front l (bytes16 f) (front (l ++ bytes16 f) (bytes16 n) h)) (bytes_16 g)) (bytes_16 m)
  where
    front : (l m : List ℕ) → AllBytes (l ++ m) → AllBytes l
    front [] m h = empty
    front (x ∷ l) m (eachByte p h) = eachByte p (front l m h)

-- entry 0 is the slot
slot-first : (e : Entry) → claim (kind_test 0 e) → e ≡ Slot
slot-first Slot h = refl
slot-first (Moved m) h = let z = h.0 in absurd (omega arith)
slot-first (End x t) h = absurd (omega arith)

module _ (b : List ℕ) (s : Sound b) (u : Bytes b) where
  bytes : AllBytes b
  bytes = bytes-from b u

  -- ---- what stays

  position_part : position_bytes (position_in (drop 28 b)) ≡ take 100 (drop 28 b)
  position_part =
      position-bytes (drop 28 b) (omega (arith, length-drop 28 b, s.head.0)) (get_or-drop 28 b 3 0 ∙ s.position.0) (get_or-drop 28 b 99 0 ∙ s.position.1.0)

  text-bytes : (from n : ℕ) → AllBytes (stored_text b from n)
  text-bytes from n = bytes_take n (bytes_drop (text_place b + from) bytes)

  header-bytes : (k : ℕ) → AllBytes (key_of b k ++ value_of b k)
  unfolding key_of value_of
  header-bytes k = bytes-join (text-bytes (key_offset b k) (key_length b k)) (text-bytes (value_offset b k) (value_length b k))

  headers_fit : claim (each (length (run (header_in b) 0 (headers_in b))) (header_fits (run (header_in b) 0 (headers_in b))))
  headers_fit k h =
      let l : k < headers_in b = omega (arith, n) in
      let w = (s.headers k l).1.1 in (
        subst (λ (x : Header). claim (valid x.key)) (sym (at k l)) w.0,
        (
          subst (λ (x : Header). claim (valid x.value)) (sym (at k l)) w.1.0,
          by_pick (λ (t : Bool). t ≡ true) (ltb (k + 1) (length hs)) (before (header_of hs k).key (header_of hs (k + 1)).key) true (λ t. next-key k l w.1.1 (ltb-true _ _ t))
              (λ _. refl),
        ),
      )
    where
      hs : List Header
      hs = run (header_in b) 0 (headers_in b)

      n : length hs ≡ headers_in b
      n = length_run (header_in b) 0 (headers_in b)

      at : (k : ℕ) → k < headers_in b → header_of hs k ≡ header_in b k
      at k l = run-get_or (header_in b) (record { key = []; value = [] }) 0 (headers_in b) k l ∙ ap (header_in b) (zero-add k)

      next-key : (k : ℕ) → k < headers_in b → pick (ltb (k + 1) (headers_in b)) (before (key_of b k) (key_of b (k + 1))) true ≡ true → k + 1 < length hs
          → before (header_of hs k).key (header_of hs (k + 1)).key ≡ true
      next-key k l a m =
          let c : k + 1 < headers_in b = omega (arith, n) in
          ap₂ (λ (x y : Header). before x.key y.key) (at k l) (at (k + 1) c)
          ∙ sym (ap (λ (t : Bool). pick t (before (key_of b k) (key_of b (k + 1))) true) (lt-ltb _ _ c))
          ∙ a

  -- ---- with other lines

  module _ (version : ℕ) (ls : List Line) (stand : Standing ls) where
    relined-bytes : AllBytes (encode (relined version (decode b) ls))
    unfolding encode relined decode
    relined-bytes =
        let hs = run (header_in b) 0 (headers_in b) in
        let es = entries_of ls in
        let w = all_stand ls stand in
        bytes-join (bytes-join (bytes-join (bytes-join (bytes-join (bytes-join (bytes-join (head-bytes _ _ _ _ _ _)
        (subst AllBytes (sym position_part) (bytes_take 100 (bytes_drop 28 bytes)))) (headers-bytes 0 hs)) (lines-bytes 0 ls))
        (bytes-table entry_row entry_step (all_so (λ e x. x.row) w) 0)) (remarks_bytes (length (header_text hs)) (comments_of es)))
        (bytes-concat (λ (h : Header). h.key ++ h.value) (all-run (header_in b) (headers_in b) 0 (λ i _ _. header-bytes i))))
        (bytes-concat (λ (c : List ℕ). c) (all-concat (λ (e : Noted). e.comments) (all_so (λ e x. x.texts) w)))

    pub relined_formed : is_version version ≡ true → LinesAs version ls → length (encode (relined version (decode b) ls)) ≤ 65535
        → Formed (relined version (decode b) ls)
    unfolding relined decode position_in
    relined_formed is lines short =
        record {
          version = is;
          short = short;
          bytes = bytes-at relined-bytes;
          cells = bytes-length (drop 28 b) 4 81;
          hands = bytes-length (drop 28 b) 85 14;
          position = s.position.1.1;
          headers = headers_fit;
          some = some-lines stand;
          lines = λ k h. (some-each ls stand k h, lines k h);
          entries = kinds (entries_of ls) (all-entries ls stand);
          comments = all-at [] (all-concat (λ (e : Noted). e.comments) (all_so (λ e x. x.valids) (all_stand ls stand)));
        }
      where
        some-lines : {l : List Line} → Standing l → 1 ≤ length l
        some-lines (leads m h) = omega arith

  -- ---- the lines of the block

  comments-of : (P : List ℕ → Type 0) → ((j : ℕ) → j < comments_in b → P (comment_of b j)) → (k : ℕ) → k < moves_in b → All P (noted_in b k).comments
  comments-of P h k l = all-run (comment_of b) (comment_count b k) (first_comment b k) (λ i x y. h i (go i x y))
    where
      go : (i : ℕ) → first_comment b k ≤ i → i < first_comment b k + comment_count b k → i < comments_in b
      go i x y =
          let e : eqb (comment_count b k) 0 ≡ false = ne_eqb (comment_count b k) 0 (λ z. omega arith) in
          let f : first_comment b k ≡ comments_before b k = first-comment b s k l ∙ ap (λ (t : Bool). pick t 0 (comments_before b k)) e in
          omega (arith, sum-within (λ k. comment_count b k) k (moves_in b) l, s.totals.1.1.0)

  comment-bytes : (j : ℕ) → AllBytes (comment_of b j)
  unfolding comment_of
  comment-bytes j = text-bytes (comment_offset b j) (comment_length b j)

  entry_stands : (k : ℕ) → k < moves_in b → Stands (noted_in b k)
  entry_stands k h =
      record {
        row = λ n. other_row (noted_in b k).what _ _ _ _ (subst AllBytes (entry_is b s k h) (bytes_take 20 (bytes_drop (move_place b k) bytes)));
        valids = comments-of (λ c. claim (valid c)) (λ j l. (s.comments j l).1) k h;
        texts = comments-of AllBytes (λ j _. comment-bytes j) k h;
      }

  pub block_lines : Standing (decode b).lines
  block_lines = unfold decode in led_run (line_in b) (lines_in b) s.totals.0 main side
    where
      main : Main (line_in b 0)
      main =
          let n = entries-within b s 0 s.totals.0 in
          let o = some-entry b s 0 s.totals.0 in
          subst (λ (i : ℕ). Led First Later (run (noted_in b) i (entry_count b 0))) (sym (first-none b s))
          (led_run (noted_in b) (entry_count b 0) (omega arith)
          (entry_stands 0 (omega arith), slot-first (noted_in b 0).what (s.entries 0 (omega arith)).0)
          (λ i a l. (entry_stands i (omega arith), kind-same i 1 (noted_in b i).what a (omega arith) (s.entries i (omega arith)).0)))

      side : (k : ℕ) → 0 < k → k < lines_in b → Side (line_in b k)
      side k z h =
          let n = entries-within b s k h in
          let e = first_is b s k h in
          let f = sum-within (λ k. entry_count b k) 0 k z in
          let o = some-entry b s 0 s.totals.0 in
          record {
            some = omega (arith, length_run (noted_in b) (first_entry b k) (entry_count b k), some-entry b s k h);
            each =
                all-run (noted_in b) (entry_count b k) (first_entry b k)
                (λ i a l. (entry_stands i (omega arith), kind-same i 1 (noted_in b i).what (omega arith) (omega arith) (s.entries i (omega arith)).0));
          }

-- ---- the line of a text

pub text-line : (t : List ℕ) → Bytes t → is_variation t ≡ true → (k : ℕ) → Side (line_on k (variation_of t))
text-line t u v k =
    let said = variation_says t v in
    record {
      some = omega (arith, said.some);
      each =
          entries-all t Later (λ at n e c q.
          let f = (line_is (move-line-fits t at) q).entry in (
            record {
              row = λ m. bytes-from _ (entry-bytes-small e f _ _);
              valids = comments-all t (λ c. claim (valid c)) (λ at from to end q. remark_well t at from to end said.formed q) c.at;
              texts = comments-all t AllBytes (λ at from to end q. bytes_take (to.at - from.at) (bytes_drop from.at (bytes-from t u))) c.at;
            },
            later-kind 0 e f,
          )) 0;
    }
