-- The block of a well-formed record is sound: every field that is read off it is the one that was written, so each sentence of soundness is one
-- of the record's own, or says that a number is the length of what stands before.
-- Assumes nothing.
use Prim.Native.Nat.{ℕ, ◌+◌, ◌*◌, ◌≤◌, ◌<◌}
use native.Mathlib.Omega.{arith}
use mathlib.Core.Path.{◌≡◌, refl, sym, ap, ap₂, ◌∙◌, subst}
use mathlib.Core.List.{List, [], ◌∷◌, ◌++◌, append_assoc}
use mathlib.Core.Bool.{Bool, true, false}
use lib.ListN.{length, get_or, take, drop, length-append}
use lib.Seq.{take-length, get_or-drop, get_or_at}
use lib.Dec.{eqb, ltb}
use borrow.Author.Tests.{ltb-true}
use Rattle.lists.specs.Pick.{pick}
use Rattle.lists.specs.Test.{claim}
use Rattle.lent.specs.Bytes.{le16}
use Rattle.lent.proofs.Writes.{read16}
use Rattle.block.specs.EntryBytes.{entry_in, entry_bytes}
use Rattle.block.specs.PositionBytes.{position_bytes}
use Rattle.jkf.specs.declared.Entry.{Entry}
use Rattle.jkf.specs.declared.Position.{Position}
use Rattle.jkf.specs.Model.{Header, Noted, Line, Record}
use Rattle.block.specs.Encode.{encode, head_bytes, concat, header_text, entries_of, comments_of, comment_text}
use Rattle.block.specs.Decode.{headers_in, lines_in, moves_in, comments_in, line_place, move_place, comment_place, text_place, key_length, value_length, start_of, entry_count, parent_of, comment_count, comment_length, key_of}
use Rattle.text.specs.Text.{same, before}
use Rattle.block.specs.inner.Sounds.{Sound}
use Rattle.block.specs.Sound.{valid, head_test, parts_test, totals_test, position_test, header_test, line_test, entry_test, comment_test, fits_test, kind_test, ascends, header_bytes, comment_bytes, comments_before, entries_before}
use Rattle.jkf.specs.Trees.{is_version, hang_test, HangAs}
use Rattle.block.specs.Formed.{header_of, line_of, noted_of, header_fits, Formed}
use Rattle.text.proofs.Laws.{same_refl}
use Rattle.block.proofs.Tabling.{concat-sum}
use Rattle.laws.proofs.Parts.{from_part}
use Rattle.block.proofs.Lengths.{block-length}
use Rattle.edit.proofs.Alike.{hang-same}
use Rattle.laws.proofs.Fields.{notes_of, remarks_of, remark_of, no_header, no_line, no_noted, Fits, fits, head-begins, version_is, length_is, headers_are, lines_are, moves_are, comments_are, key-offset, key-length, value-offset, value-length, key_is, value_is, start_is, first-entry, entry-count_is, parent_is, entry-row, comment-count_is, what_is, comment-offset, comment-length, comment_is, position_part}
use Rattle.laws.proofs.Decoded.{formed_fits, position_is}

-- two texts that are equal are the same bytes
same_of : (a b : List ℕ) → a ≡ b → same a b ≡ true
same_of a b e = subst (λ (l : List ℕ). same a l ≡ true) e (same_refl a)

-- a whole list's parts
all_of : {X Y : Type 0} (part : X → List Y) (xs : List X) (n : ℕ) → n ≡ length xs → length (concat part (take n xs)) ≡ length (concat part xs)
all_of part xs n e = ap (λ (m : ℕ). length (concat part (take m xs))) e ∙ ap (λ l. length (concat part l)) (take-length xs)

-- the two bytes of a position that say nothing
third : (p : Position) (r : List ℕ) → get_or (position_bytes p ++ r) 3 0 ≡ 0
unfolding position_bytes
third p r = refl

last : (p : Position) (r : List ℕ) → length p.cells ≡ 81 → length p.hands ≡ 14 → get_or (position_bytes p ++ r) 99 0 ≡ 0
unfolding position_bytes
last p r c h =
    let a = p.preset ∷ p.board ∷ p.turn ∷ 0 ∷ [] in
    let n : length (a ++ p.cells ++ p.hands) ≡ 99 = simp length-append (omega arith) in
    ap (λ (l : List ℕ). get_or l 99 0) (append_assoc (a ++ p.cells ++ p.hands) (0 ∷ []) r) ∙ get_or_at (a ++ p.cells ++ p.hands) 0 r 0 99 n

module _ (r : Record) (f : Fits r) where
  -- ---- the sums

  header-bytes : (k : ℕ) → k ≤ length r.headers → header_bytes (encode r) k ≡ length (header_text (take k r.headers))
  header-bytes k h =
      concat-sum (λ (h : Header). h.key ++ h.value) no_header (λ k. key_length (encode r) k + value_length (encode r) k) r.headers
      (λ i l. omega (arith, key-length r f i l, value-length r f i l, length-append (header_of r.headers i).key (header_of r.headers i).value)) k h

  entries-before : (k : ℕ) → k ≤ length r.lines → entries_before (encode r) k ≡ length (entries_of (take k r.lines))
  entries-before k h = concat-sum (λ (l : Line). l.entries) no_line (λ k. entry_count (encode r) k) r.lines (entry-count_is r f) k h

  comments-before : (k : ℕ) → k ≤ length (notes_of r) → comments_before (encode r) k ≡ length (comments_of (take k (notes_of r)))
  comments-before k h = concat-sum (λ (e : Noted). e.comments) no_noted (λ k. comment_count (encode r) k) (notes_of r) (comment-count_is r f) k h

  comment-bytes : (k : ℕ) → k ≤ length (remarks_of r) → comment_bytes (encode r) k ≡ length (comment_text (take k (remarks_of r)))
  comment-bytes k h = concat-sum (λ (c : List ℕ). c) [] (λ k. comment_length (encode r) k) (remarks_of r) (comment-length r f) k h

  all-headers : header_bytes (encode r) (headers_in (encode r)) ≡ length (header_text r.headers)
  all-headers =
      header-bytes (headers_in (encode r)) (omega (arith, headers_are r f))
      ∙ all_of (λ (h : Header). h.key ++ h.value) r.headers (headers_in (encode r)) (headers_are r f)

  all-entries : entries_before (encode r) (lines_in (encode r)) ≡ length (notes_of r)
  all-entries =
      entries-before (lines_in (encode r)) (omega (arith, lines_are r f)) ∙ all_of (λ (l : Line). l.entries) r.lines (lines_in (encode r)) (lines_are r f)

  all-comments : comments_before (encode r) (moves_in (encode r)) ≡ length (remarks_of r)
  all-comments =
      comments-before (moves_in (encode r)) (omega (arith, moves_are r f)) ∙ all_of (λ (e : Noted). e.comments) (notes_of r) (moves_in (encode r)) (moves_are r f)

  all-text : comment_bytes (encode r) (comments_in (encode r)) ≡ length (comment_text (remarks_of r))
  all-text =
      comment-bytes (comments_in (encode r)) (omega (arith, comments_are r f)) ∙ all_of (λ (c : List ℕ). c) (remarks_of r) (comments_in (encode r)) (comments_are r f)

  -- ---- the head

  head-sound : is_version r.version ≡ true → claim (head_test (encode r))
  unfolding head_bytes
  head-sound v =
      let b = head-begins r f in
      let n = block-length r f.whole in (
        omega arith,
        (
          f.short,
          (
            ap (λ (l : List ℕ). get_or l 0 0) b,
            (
              ap (λ (l : List ℕ). get_or l 1 0) b,
              (ap is_version (version_is r f) ∙ v, (length_is r f, (ap (λ (l : List ℕ). le16 l 24) b, ap (λ (l : List ℕ). le16 l 26) b))),
            ),
          ),
        ),
      )

  parts-sound : claim (parts_test (encode r))
  unfolding head_bytes
  parts-sound =
      let b = head-begins r f in
      let n = fits r f in
      let h = length r.headers in
      let l = length r.lines in
      let m = length (notes_of r) in
      let c = length (remarks_of r) in
      let e₁ = headers_are r f in
      let e₂ = lines_are r f in
      let e₃ = moves_are r f in
      let e₄ = comments_are r f in
      let p₁ : line_place (encode r) 0 ≡ 128 + 8 * h = omega arith in
      let p₂ : move_place (encode r) 0 ≡ 128 + 8 * h + 8 * l = omega arith in
      let p₃ : comment_place (encode r) 0 ≡ 128 + 8 * h + 8 * l + 20 * m = omega arith in
      let p₄ : text_place (encode r) ≡ 128 + 8 * h + 8 * l + 20 * m + 4 * c = omega arith in (
        ap (λ (l : List ℕ). le16 l 14) b,
        (
          ap (λ (l : List ℕ). le16 l 16) b ∙ read16 (128 + 8 * h) [] (omega arith) ∙ sym p₁,
          (
            ap (λ (l : List ℕ). le16 l 18) b ∙ read16 (128 + 8 * h + 8 * l) [] (omega arith) ∙ sym p₂,
            (
              ap (λ (l : List ℕ). le16 l 20) b ∙ read16 (128 + 8 * h + 8 * l + 20 * m) [] (omega arith) ∙ sym p₃,
              ap (λ (l : List ℕ). le16 l 22) b ∙ read16 (128 + 8 * h + 8 * l + 20 * m + 4 * c) [] (omega arith) ∙ sym p₄,
            ),
          ),
        ),
      )

  totals-sound : 1 ≤ length r.lines → claim (totals_test (encode r))
  totals-sound h =
      let e₁ = headers_are r f in
      let e₂ = lines_are r f in
      let e₃ = moves_are r f in
      let e₄ = comments_are r f in (
        omega arith,
        (all-entries ∙ sym e₃, (all-comments ∙ sym e₄, omega (arith, all-headers, all-text, block-length r f.whole))),
      )

  -- ---- the position

  position-sound : length r.position.cells ≡ 81 → length r.position.hands ≡ 14 → claim (fits_test r.position) → claim (position_test (encode r))
  position-sound c h w =
      let e = (from_part (position_part r f)).is in (
        sym (get_or-drop 28 (encode r) 3 0) ∙ ap (λ (l : List ℕ). get_or l 3 0) e ∙ third r.position _,
        (
          sym (get_or-drop 28 (encode r) 99 0) ∙ ap (λ (l : List ℕ). get_or l 99 0) e ∙ last r.position _ c h,
          subst (λ (p : Position). claim (fits_test p)) (sym (position_is r f c h)) w,
        ),
      )

  -- ---- the tables

  header-sound : (k : ℕ) → k < length r.headers → claim (header_fits r.headers k) → claim (header_test (encode r) k)
  header-sound k h w =
      let e : header_bytes (encode r) k ≡ length (header_text (take k r.headers)) = header-bytes k (omega arith) in (
        key-offset r f k h ∙ sym e,
        (
          omega (arith, value-offset r f k h, key-length r f k h),
          (
            subst (λ (t : List ℕ). claim (valid t)) (sym (key_is r f k h)) w.0,
            (subst (λ (t : List ℕ). claim (valid t)) (sym (value_is r f k h)) w.1.0, ascends-on w.1.1),
          ),
        ),
      )
    where
      ascends-on : pick (ltb (k + 1) (length r.headers)) (before (header_of r.headers k).key (header_of r.headers (k + 1)).key) true ≡ true → claim (ascends (encode r) k)
      ascends-on a =
          subst (λ (n : ℕ). pick (ltb (k + 1) n) (before (key_of (encode r) k) (key_of (encode r) (k + 1))) true ≡ true) (sym (headers_are r f))
          (go (ltb (k + 1) (length r.headers)) refl a)
        where
          go : (t : Bool) → ltb (k + 1) (length r.headers) ≡ t → pick t (before (header_of r.headers k).key (header_of r.headers (k + 1)).key) true ≡ true
              → pick t (before (key_of (encode r) k) (key_of (encode r) (k + 1))) true ≡ true
          go true e a = rw (key_is r f k h, key_is r f (k + 1) (ltb-true (k + 1) (length r.headers) e)) a
          go false e a = refl

  -- its lines hang as those of the record
  lines_hung : (v : ℕ) → 0 < length r.lines → HangAs v (λ j. (line_of r.lines j).start) (λ j. length (line_of r.lines j).entries) (λ j. (line_of r.lines j).parent) (length r.lines)
      → HangAs v (start_of (encode r)) (entry_count (encode r)) (parent_of (encode r)) (length r.lines)
  lines_hung v some =
      hang-same v (λ j. (line_of r.lines j).start) (λ j. length (line_of r.lines j).entries) (λ j. (line_of r.lines j).parent) (start_of (encode r)) (entry_count (encode r)) (parent_of (encode r)) some (omega arith)
      (start_is r f) (entry-count_is r f) (parent_is r f)

  line-sound : (k : ℕ) → k < length r.lines → 1 ≤ length (line_of r.lines k).entries → claim (hang_test r.version (start_of (encode r)) (entry_count (encode r)) (parent_of (encode r)) k)
      → claim (line_test (encode r) k)
  line-sound k h n w = (
    first-entry r f k h ∙ sym (entries-before k (omega arith)),
    (
      omega (arith, entry-count_is r f k h),
      subst (λ (v : ℕ). claim (hang_test v (start_of (encode r)) (entry_count (encode r)) (parent_of (encode r)) k)) (sym (version_is r f)) w,
    ),
  )

  entry-sound : (k : ℕ) → k < length (notes_of r) → claim (kind_test k (noted_of (notes_of r) k).what) → claim (entry_test (encode r) k)
  entry-sound k h w =
      let x = (noted_of (notes_of r) k).what in
      let n = comment_count (encode r) k in
      let b = comments_before (encode r) k in
      let e₁ : n ≡ length (noted_of (notes_of r) k).comments = comment-count_is r f k h in
      let e₂ : b ≡ length (comments_of (take k (notes_of r))) = comments-before k (omega arith) in
      let e₃ : entry_in (drop (move_place (encode r) k) (encode r)) ≡ x = what_is r f k h in
      let e : entry_bytes (entry_in (drop (move_place (encode r) k) (encode r))) (pick (eqb n 0) 0 b) n ≡ take 20 (drop (move_place (encode r) k) (encode r)) =
      ap (λ (y : Entry). entry_bytes y (pick (eqb n 0) 0 b) n) e₃
      ∙ ap₂ (λ (i j : ℕ). entry_bytes x (pick (eqb i 0) 0 j) i) e₁ e₂
      ∙ (entry-row r f k h).is in (
        subst (λ (y : Entry). claim (kind_test k y)) (sym e₃) w,
        same_of _ _ (sym e),
      )

  comment-sound : (k : ℕ) → k < length (remarks_of r) → claim (valid (remark_of r k)) → claim (comment_test (encode r) k)
  comment-sound k h w = (
    omega (arith, comment-offset r f k h, all-headers, comment-bytes k (omega arith)),
    subst (λ (t : List ℕ). claim (valid t)) (sym (comment_is r f k h)) w,
  )

pub sound-encode : (r : Record) → Formed r → Sound (encode r)
sound-encode r g =
    let f = formed_fits r g in
    record {
      head = head-sound r f g.version;
      parts = parts-sound r f;
      totals = totals-sound r f g.some;
      position = position-sound r f g.cells g.hands g.position;
      headers = λ k h. let l : k < length r.headers = omega (arith, headers_are r f) in header-sound r f k l (g.headers k l);
      lines = λ k h. let l : k < length r.lines = omega (arith, lines_are r f) in line-sound r f k l (g.lines k l).0 (lines_hung r f r.version g.some (λ j m. (g.lines j m).1) k l);
      entries = λ k h. let l : k < length (notes_of r) = omega (arith, moves_are r f) in entry-sound r f k l (g.entries k l);
      comments = λ k h. let l : k < length (remarks_of r) = omega (arith, comments_are r f) in comment-sound r f k l (g.comments k l);
    }
