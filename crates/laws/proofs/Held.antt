-- What a sound block holds, list by list: its texts stand where their rows say, and the entries of the lines, and the comments of the
-- entries, follow one another, so that taken together they are all entries and all comments. For a row says where its part begins, that is
-- the sum of the lengths before it, and no sum goes past the whole.
-- Assumes nothing.
use Prim.Native.Nat.{ℕ, zero, suc, ◌+◌, ◌≤◌, ◌<◌}
use native.Mathlib.Nat.{zero-add, add-zero}
use native.Mathlib.Omega.{arith}
use mathlib.Core.Path.{◌≡◌, sym, ap, ◌∙◌}
use mathlib.Core.List.{List, ◌++◌, append-nil}
use mathlib.Core.Bool.{Bool}
use lib.ListN.{length, take, drop}
use lib.Dec.{eqb}
use borrow.Author.Tests.{ne_eqb}
use Rattle.lists.specs.Pick.{pick}
use Rattle.block.specs.EntryBytes.{entry_in, entry_bytes}
use Rattle.jkf.specs.Model.{Noted, Line}
use Rattle.block.specs.Encode.{entries_of, comments_of}
use Rattle.block.specs.Decode.{headers_in, lines_in, moves_in, comments_in, move_place, text_place, key_offset, key_length, value_offset, value_length, first_entry, entry_count, first_comment, comment_count, comment_offset, comment_length, key_of, value_of, comment_of, noted_in, line_in, run}
use Rattle.block.specs.inner.Sounds.{Sound}
use Rattle.block.specs.Sound.{header_bytes, comment_bytes, comments_before, entries_before}
use Rattle.text.proofs.Laws.{same_is}
use Rattle.block.proofs.Sums.{sum-none, sum_suc, sum-within}
use Rattle.block.proofs.Tabling.{run_none, run-add, concat_grows}
use Rattle.block.proofs.Within.{first-comment}
use Rattle.laws.proofs.Parts.{Part, part_of, part_from, part_length}

-- a run goes on with another that begins where it ends, or is empty
follow : {X : Type 0} (f : ℕ → X) (a j n : ℕ) → j ≡ pick (eqb n 0) 0 a → run f 0 a ++ run f j n ≡ run f 0 (a + n)
follow f a j zero e = ap (λ l. run f 0 a ++ l) (run_none f j) ∙ append-nil (run f 0 a) ∙ ap (run f 0) (sym (add-zero a))
follow f a j (suc n) e =
    let q : j ≡ 0 + a = e ∙ ap (λ (t : Bool). pick t 0 a) (ne_eqb (suc n) 0 (λ z. omega arith)) ∙ sym (zero-add a) in
    ap (λ (i : ℕ). run f 0 a ++ run f i (suc n)) q ∙ sym (run-add f 0 a (suc n))

module _ (b : List ℕ) (s : Sound b) where
  pub whole_length : text_place b + header_bytes b (headers_in b) + comment_bytes b (comments_in b) ≡ length b
  whole_length = s.totals.1.1.1

  -- ---- the texts of header entry k

  pub key_part : (k : ℕ) → k < headers_in b → Part b (text_place b + header_bytes b k) (key_length b k) (key_of b k)
  unfolding key_of
  key_part k h =
      let e : text_place b + key_offset b k ≡ text_place b + header_bytes b k = ap (λ (x : ℕ). text_place b + x) (s.headers k h).0 in
      part_from _ e (part_of b (text_place b + key_offset b k) (key_length b k))

  pub value_part : (k : ℕ) → k < headers_in b → Part b (text_place b + header_bytes b k + key_length b k) (value_length b k) (value_of b k)
  unfolding value_of
  value_part k h =
      let e : text_place b + value_offset b k ≡ text_place b + header_bytes b k + key_length b k = omega (arith, (s.headers k h).1.0) in
      part_from _ e (part_of b (text_place b + value_offset b k) (value_length b k))

  -- ---- comment k

  pub comment-within : (k : ℕ) → k < comments_in b → comment_bytes b k + comment_length b k ≤ comment_bytes b (comments_in b)
  comment-within k h = sum-within (λ k. comment_length b k) k (comments_in b) h

  pub comment_part : (k : ℕ) → k < comments_in b
      → Part b (text_place b + header_bytes b (headers_in b) + comment_bytes b k) (comment_length b k) (comment_of b k)
  unfolding comment_of
  comment_part k h =
      let e : text_place b + comment_offset b k ≡ text_place b + header_bytes b (headers_in b) + comment_bytes b k = omega (arith, (s.comments k h).0) in
      part_from _ e (part_of b (text_place b + comment_offset b k) (comment_length b k))

  pub comment-length : (k : ℕ) → k < comments_in b → length (comment_of b k) ≡ comment_length b k
  comment-length k h = part_length (comment_part k h) (omega (arith, whole_length, comment-within k h))

  -- ---- entry k

  -- its 20 bytes
  pub entry_is : (k : ℕ) → k < moves_in b → take 20 (drop (move_place b k) b)
      ≡ entry_bytes (entry_in (drop (move_place b k) b)) (pick (eqb (comment_count b k) 0) 0 (comments_before b k)) (comment_count b k)
  entry_is k h = same_is _ _ (s.entries k h).1

  -- ---- all entries, and all comments

  entries_next : (k : ℕ) → k < lines_in b → run (noted_in b) 0 (entries_before b k) ++ (line_in b k).entries ≡ run (noted_in b) 0 (entries_before b (suc k))
  entries_next k h =
      let e : first_entry b k ≡ 0 + entries_before b k = (s.lines k h).0 ∙ sym (zero-add (entries_before b k)) in
      ap (λ (j : ℕ). run (noted_in b) 0 (entries_before b k) ++ run (noted_in b) j (entry_count b k)) e
      ∙ sym (run-add (noted_in b) 0 (entries_before b k) (entry_count b k))
      ∙ ap (run (noted_in b) 0) (sym (sum_suc (λ k. entry_count b k) k))

  pub all-entries : entries_of (run (line_in b) 0 (lines_in b)) ≡ run (noted_in b) 0 (moves_in b)
  all-entries =
      concat_grows (λ (l : Line). l.entries) (line_in b) (λ k. run (noted_in b) 0 (entries_before b k)) (lines_in b)
      (ap (run (noted_in b) 0) (sum-none (λ k. entry_count b k)) ∙ run_none (noted_in b) 0) entries_next
      ∙ ap (run (noted_in b) 0) s.totals.1.0

  comments-next : (k : ℕ) → k < moves_in b → run (comment_of b) 0 (comments_before b k) ++ (noted_in b k).comments ≡ run (comment_of b) 0 (comments_before b (suc k))
  comments-next k h =
      follow (comment_of b) (comments_before b k) (first_comment b k) (comment_count b k) (first-comment b s k h)
      ∙ ap (run (comment_of b) 0) (sym (sum_suc (λ k. comment_count b k) k))

  pub all-comments : comments_of (run (noted_in b) 0 (moves_in b)) ≡ run (comment_of b) 0 (comments_in b)
  all-comments =
      concat_grows (λ (e : Noted). e.comments) (noted_in b) (λ k. run (comment_of b) 0 (comments_before b k)) (moves_in b)
      (ap (run (comment_of b) 0) (sum-none (λ k. comment_count b k)) ∙ run_none (comment_of b) 0) comments-next
      ∙ ap (run (comment_of b) 0) s.totals.1.1.0
