-- The record that a block was made of is read back: each list is read index by index, and what is read there is what was written; the
-- entries of a line, and the comments of an entry, lie in a row among all of them.
-- Assumes nothing.
use Prim.Native.Nat.{ℕ, ◌+◌, ◌≤◌, ◌<◌}
use native.Mathlib.Omega.{arith}
use mathlib.Core.Path.{◌≡◌, refl, sym, ap, ap₂, ◌∙◌}
use mathlib.Core.List.{List, []}
use mathlib.Core.Bool.{Bool, true, false}
use lib.ListN.{length, take, drop}
use lib.Dec.{eqb}
use borrow.Author.Tests.{eqb-true, ne_eqb}
use Rattle.lists.specs.Pick.{pick}
use Rattle.block.specs.PositionBytes.{position_in}
use Rattle.jkf.specs.declared.Entry.{Entry}
use Rattle.jkf.specs.declared.Position.{Position}
use Rattle.jkf.specs.Model.{Header, Noted, Line, Record}
use Rattle.block.specs.Encode.{encode, entries_of, comments_of}
use Rattle.block.specs.Decode.{decode, headers_in, lines_in, parent_of, first_entry, entry_count, first_comment, comment_count, comment_of, header_in, noted_in, line_in, run}
use Rattle.block.specs.Formed.{header_of, line_of, noted_of, Formed}
use Rattle.block.proofs.Tabling.{run_is, run-all, concat-sum, part_get_or, part_within}
use Rattle.laws.proofs.Parts.{from_part}
use Rattle.block.proofs.PositionsBack.{position-length, position_back}
use Rattle.block.proofs.Lengths.{block-length}
use Rattle.jkf.specs.Trees.{is_version}
use Rattle.jkf.proofs.OneTwo.{branched_as}
use Rattle.laws.proofs.Hanging.{start-low, parent-low}
use Rattle.laws.proofs.Fields.{notes_of, no_header, no_line, no_noted, length_of, Fits, version_is, headers_are, lines_are, key_is, value_is, start_is, first-entry, entry-count_is, parent_is, first-comment, comment-count_is, what_is, comment_is, position_part}

-- ---- a well-formed record fits

-- a version is a number of two bytes
version-small : (v : ℕ) → is_version v ≡ true → v < 65536
version-small v h = go (eqb v 1) refl h
  where
    go : (t : Bool) → eqb v 1 ≡ t → pick t true (eqb v 2) ≡ true → v < 65536
    go true e h = omega (arith, eqb-true v 1 e)
    go false e h = omega (arith, eqb-true v 2 h)

pub formed_fits : (r : Record) → Formed r → Fits r
formed_fits r g =
    let ls = r.lines in
    let w = position-length r.position g.cells g.hands in
    let n : length_of r ≤ 65535 = omega (arith, block-length r w, g.short) in
    let start : ℕ → ℕ = λ j. (line_of ls j).start in
    let count : ℕ → ℕ = λ j. length (line_of ls j).entries in
    let parent : ℕ → ℕ = λ j. (line_of ls j).parent in
    let tree = branched_as start count parent r.version (length ls) g.some (λ k h. (g.lines k h).1) in
    record {
      whole = w;
      short = g.short;
      version = version-small r.version g.version;
      starts =
          λ k h.
          omega (
            arith,
            start-low start count parent tree k h,
            concat-sum (λ (l : Line). l.entries) no_line count ls (λ i h. refl) k (omega arith),
            part_within (λ (l : Line). l.entries) no_line ls k h,
          );
      parents = λ k h. omega (arith, parent-low start count parent tree k h);
    }

-- ---- what is read is what was written

module _ (r : Record) (f : Fits r) where
  pub header_is : (k : ℕ) → k < length r.headers → header_in (encode r) k ≡ header_of r.headers k
  header_is k h = ap₂ (λ (x y : List ℕ). record { key = x; value = y }) (key_is r f k h) (value_is r f k h)

  pub remarks_are : (k : ℕ) → k < length (notes_of r)
      → run (comment_of (encode r)) (first_comment (encode r) k) (comment_count (encode r) k) ≡ (noted_of (notes_of r) k).comments
  remarks_are k h =
      let cs = (noted_of (notes_of r) k).comments in
      let n = length (comments_of (take k (notes_of r))) in
      ap (run (comment_of (encode r)) (first_comment (encode r) k)) (comment-count_is r f k h)
      ∙ run_is (comment_of (encode r)) [] (first_comment (encode r) k) cs
      (λ j l.
      let z : eqb (length cs) 0 ≡ false = ne_eqb (length cs) 0 (λ e. omega arith) in
      let e : first_comment (encode r) k ≡ n = first-comment r f k h ∙ ap (λ (t : Bool). pick t 0 n) z in
      let w = part_within (λ (e : Noted). e.comments) no_noted (notes_of r) k h in
      ap (λ (i : ℕ). comment_of (encode r) (i + j)) e
      ∙ comment_is r f (n + j) (omega arith)
      ∙ part_get_or (λ (e : Noted). e.comments) [] no_noted (notes_of r) k j h l)

  pub noted_is : (k : ℕ) → k < length (notes_of r) → noted_in (encode r) k ≡ noted_of (notes_of r) k
  noted_is k h = ap₂ (λ (x : Entry) (y : List (List ℕ)). record { what = x; comments = y }) (what_is r f k h) (remarks_are k h)

  pub entries_are : (k : ℕ) → k < length r.lines
      → run (noted_in (encode r)) (first_entry (encode r) k) (entry_count (encode r) k) ≡ (line_of r.lines k).entries
  entries_are k h =
      let es = (line_of r.lines k).entries in
      let n = length (entries_of (take k r.lines)) in
      ap₂ (run (noted_in (encode r))) (first-entry r f k h) (entry-count_is r f k h)
      ∙ run_is (noted_in (encode r)) no_noted n es
      (λ j l.
      let w = part_within (λ (l : Line). l.entries) no_line r.lines k h in
      noted_is (n + j) (omega arith)
      ∙ part_get_or (λ (l : Line). l.entries) no_noted no_line r.lines k j h l)

  pub line_is : (k : ℕ) → k < length r.lines → line_in (encode r) k ≡ line_of r.lines k
  line_is k h =
      ap (λ (x : ℕ). record { start = x; parent = parent_of (encode r) k; entries = (line_in (encode r) k).entries }) (start_is r f k h)
      ∙ ap₂ (λ (y : ℕ) (z : List Noted). record { start = (line_of r.lines k).start; parent = y; entries = z }) (parent_is r f k h) (entries_are k h)

  pub position_is : length r.position.cells ≡ 81 → length r.position.hands ≡ 14 → position_in (drop 28 (encode r)) ≡ r.position
  position_is c h = ap position_in (from_part (position_part r f)).is ∙ position_back r.position _ c h

pub decode-encode : (r : Record) → Formed r → decode (encode r) ≡ r
unfolding decode
decode-encode r g =
    let f = formed_fits r g in
    let b = encode r in
    let hs = run-all (header_in b) no_header (headers_in b) r.headers (headers_are r f) (header_is r f) in
    let ls = run-all (line_in b) no_line (lines_in b) r.lines (lines_are r f) (line_is r f) in
    ap₂ (λ (v : ℕ) (p : Position). record { version = v; headers = run (header_in b) 0 (headers_in b); position = p; lines = run (line_in b) 0 (lines_in b) }) (version_is r f)
    (position_is r f g.cells g.hands)
    ∙ ap₂ (λ (x : List Header) (y : List Line). record { version = r.version; headers = x; position = r.position; lines = y }) hs ls

-- no two well-formed records have the same block
pub one_record : (r r' : Record) → Formed r → Formed r' → encode r ≡ encode r' → r ≡ r'
one_record r r' g g' e = sym (decode-encode r g) ∙ ap decode e ∙ decode-encode r' g'
