-- A sound block is what `encode` makes of the record that it holds: each part of `encode (decode b)` is the bytes that stand at its place in
-- b, for each of its rows is, or its texts are; and the parts follow one another from 0 to the end.
-- Assumes nothing.
use Prim.Native.Nat.{ℕ, suc, ◌+◌, ◌*◌, ◌≤◌, ◌<◌}
use native.Mathlib.Nat.{zero-add, mul-suc}
use native.Mathlib.Omega.{arith}
use mathlib.Core.Path.{◌≡◌, refl, sym, ap, ap₂, ◌∙◌}
use mathlib.Core.List.{List, [], ◌∷◌, ◌++◌}
use lib.ListN.{length, get_or, take, drop, length-drop}
use lib.Seq.{take_all, get_or-drop}
use lib.Dec.{eqb}
use Rattle.lists.proofs.Laws.{drop_step}
use Rattle.lists.specs.Pick.{pick}
use Rattle.lent.specs.Bytes.{le16, bytes16}
use Rattle.block.specs.EntryBytes.{entry_bytes}
use Rattle.block.specs.PositionBytes.{position_bytes, position_in}
use Rattle.jkf.specs.Model.{Header, Noted}
use Rattle.block.specs.Encode.{encode, encode_flat, head_bytes, block_length, table, header_row, header_step, line_row, line_step, entry_row, entry_step, comment_row, comment_step, header_text, comments_of, comment_text}
use Rattle.block.specs.Decode.{decode, headers_in, lines_in, moves_in, comments_in, header_place, line_place, comment_place, text_place, key_length, value_length, start_of, first_entry, entry_count, parent_of, first_comment, comment_count, comment_offset, comment_length, key_of, value_of, comment_of, header_in, noted_in, line_in, run}
use Rattle.block.specs.inner.Sounds.{Sound}
use Rattle.block.specs.Sound.{sum, header_bytes, comment_bytes, comments_before, entries_before}
use Rattle.block.proofs.Sums.{sum-none, sum_suc}
use Rattle.block.proofs.Tabling.{length_run, table_grows, concat_grows}
use Rattle.block.proofs.Within.{key-length, value-length}
use Rattle.laws.proofs.Parts.{Part, then, part_from, part_as, part_of, part_length, number_part, two_part, four_part}
use Rattle.laws.specs.Blocks.{Bytes}
use Rattle.laws.proofs.Positions.{position-bytes}
use Rattle.laws.proofs.Held.{whole_length, key_part, value_part, comment_part, comment-length, entry_is, all-entries, all-comments}

-- one part after another, from the front on
join : {b t u : List ℕ} {n m : ℕ} → Part b 0 n t → Part b n m u → Part b 0 (n + m) (t ++ u)
join {n = n} p q = then p (part_from n (sym (zero-add n)) q)

-- w bytes more
grows : {b t : List ℕ} (o w k : ℕ) → Part b (o + w * k) w t → take (w * k) (drop o b) ++ t ≡ take (w * suc k) (drop o b)
grows {b} o w k p = (then (part_of b o (w * k)) p).is ∙ ap (λ (n : ℕ). take n (drop o b)) (sym (mul-suc w k))

-- as many bytes more as the next number says
onward : {b t : List ℕ} (o : ℕ) (f : ℕ → ℕ) (k : ℕ) → Part b (o + sum f k) (f k) t → take (sum f k) (drop o b) ++ t ≡ take (sum f (suc k)) (drop o b)
onward {b} o f k p = (then (part_of b o (sum f k)) p).is ∙ ap (λ (n : ℕ). take n (drop o b)) (sym (sum_suc f k))

module _ (b : List ℕ) (s : Sound b) (u : Bytes b) where
  long : 128 ≤ length b
  long = s.head.0

  front : Part b 0 2 (75 ∷ 66 ∷ [])
  front =
      let h = long in
      record {
        is =
            sym (ap (take 2) (drop_step b 0 (omega arith) ∙ ap (λ (l : List ℕ). get_or b 0 0 ∷ l) (drop_step b 1 (omega arith)))
            ∙ ap₂ (λ (x y : ℕ). x ∷ y ∷ []) s.head.1.1.0 s.head.1.1.1.0);
      }

  number : (i v : ℕ) → v ≡ le16 b i → i + 1 < 128 → Part b i 2 (bytes16 v)
  number i v e h = part_as (bytes16 (le16 b i)) (ap bytes16 e) (number_part b u i (omega (arith, long)))

  -- ---- the head

  head_part : (v t h l m c : ℕ) → v ≡ le16 b 2 → t ≡ le16 b 4 → h ≡ headers_in b → l ≡ lines_in b → m ≡ moves_in b → c ≡ comments_in b
      → Part b 0 28 (head_bytes v t h l m c)
  unfolding head_bytes
  head_part v t h l m c e₁ e₂ e₃ e₄ e₅ e₆ =
      let sizes = then (then front (number 2 v e₁ (omega arith))) (number 4 t e₂ (omega arith)) in
      let counts =
      then (then (then (then sizes (number 6 h e₃ (omega arith))) (number 8 l e₄ (omega arith))) (number 10 m e₅ (omega arith)))
      (number 12 c e₆ (omega arith)) in
      let o₁ = number 14 128 (sym s.parts.0) (omega arith) in
      let o₂ = number 16 (128 + 8 * h) (omega (arith, s.parts.1.0)) (omega arith) in
      let o₃ = number 18 (128 + 8 * h + 8 * l) (omega (arith, s.parts.1.1.0)) (omega arith) in
      let o₄ = number 20 (128 + 8 * h + 8 * l + 20 * m) (omega (arith, s.parts.1.1.1.0)) (omega arith) in
      let o₅ = number 22 (128 + 8 * h + 8 * l + 20 * m + 4 * c) (omega (arith, s.parts.1.1.1.1)) (omega arith) in
      let zeros = then (number 24 0 (sym s.head.1.1.1.1.1.1.0) (omega arith)) (number 26 0 (sym s.head.1.1.1.1.1.1.1) (omega arith)) in
      then (then (then (then (then (then counts o₁) o₂) o₃) o₄) o₅) zeros

  -- ---- the tables

  four : (i x y z w : ℕ) → x ≡ le16 b i → y ≡ le16 b (i + 2) → z ≡ le16 b (i + 4) → w ≡ le16 b (i + 6) → i + 7 < length b
      → Part b i 8 (bytes16 x ++ bytes16 y ++ bytes16 z ++ bytes16 w)
  four i x y z w e₁ e₂ e₃ e₄ h = rw (e₁, e₂, e₃, e₄) (four_part b u i h)

  header-row : (k : ℕ) → k < headers_in b → Part b (128 + 8 * k) 8 (header_row (header_bytes b k) (header_in b k))
  header-row k h =
      let e₁ = (s.headers k h).0 in
      let e₂ = (s.headers k h).1.0 in
      let n₁ = key-length b s k h in
      let n₂ = value-length b s k h in
      four (header_place b k) (header_bytes b k) (length (key_of b k)) (header_bytes b k + length (key_of b k)) (length (value_of b k)) (sym e₁) n₁ (omega arith) n₂
      (omega (arith, whole_length b s))

  header-table : Part b 128 (8 * headers_in b) (table header_row header_step 0 (run (header_in b) 0 (headers_in b)))
  header-table =
      record {
        is =
            ap (λ (n : ℕ). table header_row header_step n (run (header_in b) 0 (headers_in b))) (sym (sum-none (λ k. key_length b k + value_length b k)))
            ∙ table_grows header_row header_step (header_in b) (header_bytes b) (λ k. take (8 * k) (drop 128 b)) (headers_in b) refl
            (λ k h. omega (arith, key-length b s k h, value-length b s k h, sum_suc (λ k. key_length b k + value_length b k) k))
            (λ k h. grows 128 8 k (header-row k h));
      }

  line-row : (k : ℕ) → k < lines_in b → Part b (128 + 8 * headers_in b + 8 * k) 8 (line_row (entries_before b k) (line_in b k))
  line-row k h =
      four (line_place b k) (start_of b k) (entries_before b k) (length (line_in b k).entries) (parent_of b k) refl (sym (s.lines k h).0)
      (length_run (noted_in b) (first_entry b k) (entry_count b k)) refl (omega (arith, whole_length b s))

  line-table : Part b (128 + 8 * headers_in b) (8 * lines_in b) (table line_row line_step 0 (run (line_in b) 0 (lines_in b)))
  line-table =
      record {
        is =
            ap (λ (n : ℕ). table line_row line_step n (run (line_in b) 0 (lines_in b))) (sym (sum-none (λ k. entry_count b k)))
            ∙ table_grows line_row line_step (line_in b) (entries_before b) (λ k. take (8 * k) (drop (128 + 8 * headers_in b) b)) (lines_in b) refl
            (λ k h. omega (arith, length_run (noted_in b) (first_entry b k) (entry_count b k), sum_suc (λ k. entry_count b k) k))
            (λ k h. grows (128 + 8 * headers_in b) 8 k (line-row k h));
      }

  entry-row : (k : ℕ) → k < moves_in b → Part b (128 + 8 * headers_in b + 8 * lines_in b + 20 * k) 20 (entry_row (comments_before b k) (noted_in b k))
  entry-row k h =
      let n = length_run (comment_of b) (first_comment b k) (comment_count b k) in
      record {
        is =
            ap (λ (i : ℕ). entry_bytes (noted_in b k).what (pick (eqb i 0) 0 (comments_before b k)) i) n
            ∙ sym (entry_is b s k h);
      }

  entry-table : Part b (128 + 8 * headers_in b + 8 * lines_in b) (20 * moves_in b) (table entry_row entry_step 0 (run (noted_in b) 0 (moves_in b)))
  entry-table =
      record {
        is =
            ap (λ (n : ℕ). table entry_row entry_step n (run (noted_in b) 0 (moves_in b))) (sym (sum-none (λ k. comment_count b k)))
            ∙ table_grows entry_row entry_step (noted_in b) (comments_before b) (λ k. take (20 * k) (drop (128 + 8 * headers_in b + 8 * lines_in b) b)) (moves_in b) refl
            (λ k h. omega (arith, length_run (comment_of b) (first_comment b k) (comment_count b k), sum_suc (λ k. comment_count b k) k))
            (λ k h. grows (128 + 8 * headers_in b + 8 * lines_in b) 20 k (entry-row k h));
      }

  comment-row : (k : ℕ) → k < comments_in b
      → Part b (128 + 8 * headers_in b + 8 * lines_in b + 20 * moves_in b + 4 * k) 4 (comment_row (header_bytes b (headers_in b) + comment_bytes b k) (comment_of b k))
  comment-row k h =
      part_as (bytes16 (comment_offset b k) ++ bytes16 (comment_length b k))
      (ap₂ (λ (x y : ℕ). bytes16 x ++ bytes16 y) (sym (s.comments k h).0) (comment-length b s k h))
      (two_part b u (comment_place b k) (omega (arith, whole_length b s)))

  comment-table : (n : ℕ) → n ≡ header_bytes b (headers_in b)
      → Part b (128 + 8 * headers_in b + 8 * lines_in b + 20 * moves_in b) (4 * comments_in b) (table comment_row comment_step n (run (comment_of b) 0 (comments_in b)))
  comment-table n e =
      let z : n ≡ header_bytes b (headers_in b) + comment_bytes b 0 = omega (arith, sum-none (λ k. comment_length b k)) in
      record {
        is =
            ap (λ (n : ℕ). table comment_row comment_step n (run (comment_of b) 0 (comments_in b))) z
            ∙ table_grows comment_row comment_step (comment_of b) (λ k. header_bytes b (headers_in b) + comment_bytes b k)
            (λ k. take (4 * k) (drop (128 + 8 * headers_in b + 8 * lines_in b + 20 * moves_in b) b)) (comments_in b) refl
            (λ k h. omega (arith, comment-length b s k h, sum_suc (λ k. comment_length b k) k))
            (λ k h. grows (128 + 8 * headers_in b + 8 * lines_in b + 20 * moves_in b) 4 k (comment-row k h));
      }

  -- ---- the texts

  header-text : Part b (text_place b) (header_bytes b (headers_in b)) (header_text (run (header_in b) 0 (headers_in b)))
  header-text =
      record {
        is =
            concat_grows (λ (h : Header). h.key ++ h.value) (header_in b) (λ k. take (header_bytes b k) (drop (text_place b) b)) (headers_in b)
            (ap (λ (n : ℕ). take n (drop (text_place b) b)) (sum-none (λ k. key_length b k + value_length b k)))
            (λ k h. onward (text_place b) (λ k. key_length b k + value_length b k) k (then (key_part b s k h) (value_part b s k h)));
      }

  comment-text : Part b (text_place b + header_bytes b (headers_in b)) (comment_bytes b (comments_in b)) (comment_text (run (comment_of b) 0 (comments_in b)))
  comment-text =
      record {
        is =
            concat_grows (λ (c : List ℕ). c) (comment_of b) (λ k. take (comment_bytes b k) (drop (text_place b + header_bytes b (headers_in b)) b)) (comments_in b)
            (ap (λ (n : ℕ). take n (drop (text_place b + header_bytes b (headers_in b)) b)) (sum-none (λ k. comment_length b k)))
            (λ k h. onward (text_place b + header_bytes b (headers_in b)) (λ k. comment_length b k) k (comment_part b s k h));
      }

  -- ---- the whole

  position_part : Part b 28 100 (position_bytes (position_in (drop 28 b)))
  position_part =
      let h = long in
      record {
        is =
            position-bytes (drop 28 b) (omega (arith, length-drop 28 b)) (get_or-drop 28 b 3 0 ∙ s.position.0) (get_or-drop 28 b 99 0 ∙ s.position.1.0);
      }

  flat_back : encode_flat (le16 b 2) (position_bytes (position_in (drop 28 b))) (run (header_in b) 0 (headers_in b)) (run (line_in b) 0 (lines_in b))
      (run (noted_in b) 0 (moves_in b)) (run (comment_of b) 0 (comments_in b)) ≡ b
  flat_back =
      let hs = run (header_in b) 0 (headers_in b) in
      let ls = run (line_in b) 0 (lines_in b) in
      let es = run (noted_in b) 0 (moves_in b) in
      let cs = run (comment_of b) 0 (comments_in b) in
      let w = whole_length b s in
      let n₁ : length (header_text hs) ≡ header_bytes b (headers_in b) = part_length header-text (omega arith) in
      let n₂ : length (comment_text cs) ≡ comment_bytes b (comments_in b) = part_length comment-text (omega arith) in
      let h₁ : length hs ≡ headers_in b = length_run (header_in b) 0 (headers_in b) in
      let h₂ : length ls ≡ lines_in b = length_run (line_in b) 0 (lines_in b) in
      let h₃ : length es ≡ moves_in b = length_run (noted_in b) 0 (moves_in b) in
      let h₄ : length cs ≡ comments_in b = length_run (comment_of b) 0 (comments_in b) in
      let t : block_length (length hs) (length ls) (length es) (length cs) (length (header_text hs) + length (comment_text cs)) ≡ le16 b 4 =
      omega (arith, s.head.1.1.1.1.1.0) in
      let p₁ = join (join (head_part (le16 b 2) _ (length hs) (length ls) (length es) (length cs) refl t h₁ h₂ h₃ h₄) position_part) header-table in
      let p₂ = join (join (join p₁ line-table) entry-table) (comment-table (length (header_text hs)) n₁) in
      (join (join p₂ header-text) comment-text).is ∙ take_all (text_place b + header_bytes b (headers_in b) + comment_bytes b (comments_in b)) b (omega arith)

pub encode-decode : (b : List ℕ) → Sound b → ((k : ℕ) → get_or b k 0 < 256) → encode (decode b) ≡ b
unfolding encode decode
encode-decode b s u =
    let hs = run (header_in b) 0 (headers_in b) in
    let ls = run (line_in b) 0 (lines_in b) in
    let es = run (noted_in b) 0 (moves_in b) in
    let p = position_bytes (position_in (drop 28 b)) in
    ap (λ (l : List Noted). encode_flat (le16 b 2) p hs ls l (comments_of l)) (all-entries b s)
    ∙ ap (λ (c : List (List ℕ)). encode_flat (le16 b 2) p hs ls es c) (all-comments b s)
    ∙ flat_back b s u

-- no two sound blocks hold the same record
pub one_block : (b b' : List ℕ) → Sound b → Sound b' → ((k : ℕ) → get_or b k 0 < 256) → ((k : ℕ) → get_or b' k 0 < 256) → decode b ≡ decode b' → b ≡ b'
one_block b b' s s' u u' e = sym (encode-decode b s u) ∙ ap encode e ∙ encode-decode b' s' u'
