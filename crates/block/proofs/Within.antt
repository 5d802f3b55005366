-- In a sound block each line's entries lie among the entries, each entry's comments among the comments, and each header entry's texts among
-- the texts: a row says where its part begins, that is the sum of the counts before it, and no sum goes past the whole. All counts are below
-- 65536, since the block is.
-- Assumes nothing.
use Prim.Native.Nat.{ℕ, ◌+◌, ◌≤◌, ◌<◌}
use native.Mathlib.Omega.{arith}
use mathlib.Core.Path.{◌≡◌, sym, ap, ◌∙◌}
use mathlib.Core.List.{List, ◌++◌}
use lib.ListN.{length, drop, take-append-drop, length-take, length-drop}
use lib.Seq.{length-take-le}
use lib.Dec.{eqb}
use Rattle.lists.specs.Pick.{pick}
use Rattle.lists.proofs.Laws.{by_pick}
use Rattle.lent.specs.Bytes.{le16}
use Rattle.block.specs.EntryBytes.{entry_in, entry_bytes}
use Rattle.block.proofs.EntriesBack.{first_back}
use Rattle.block.specs.Decode.{headers_in, lines_in, moves_in, comments_in, move_place, text_place, key_offset, key_length, value_offset, value_length, first_entry, entry_count, first_comment, comment_count, comment_length, key_of, value_of, comment_of}
use Rattle.block.specs.inner.Sounds.{Sound}
use Rattle.block.specs.Sound.{header_bytes, entries_before, comments_before}
use Rattle.block.proofs.LineTables.{le16-drop}
use Rattle.block.proofs.Sums.{sum-none, sum_rises, sum-within}
use Rattle.text.proofs.Laws.{same_is}

-- a comment is no longer than its row says
pub comment-most : (b : List ℕ) (k : ℕ) → length (comment_of b k) ≤ comment_length b k
unfolding comment_of
comment-most b k = simp length-take (omega arith)

module _ (b : List ℕ) (s : Sound b) where
  -- ---- how many there are

  -- a line has 8 bytes of the block
  pub lines-small : lines_in b < 65536
  lines-small = omega (arith, s.totals.1.1.1, s.head.1.0)

  -- an entry has 20
  pub moves-small : moves_in b < 65536
  moves-small = omega (arith, s.totals.1.1.1, s.head.1.0)

  -- a comment has 4
  pub comments-small : comments_in b < 65536
  comments-small = omega (arith, s.totals.1.1.1, s.head.1.0)

  -- ---- the texts of a header entry

  header-within : (k : ℕ) → k < headers_in b → text_place b + header_bytes b k + (key_length b k + value_length b k) ≤ length b
  header-within k h = omega (arith, sum-within (λ k. key_length b k + value_length b k) k (headers_in b) h, s.totals.1.1.1)

  pub key-length : (k : ℕ) → k < headers_in b → length (key_of b k) ≡ key_length b k
  unfolding key_of
  key-length k h =
      length-take-le (key_length b k) (drop (text_place b + key_offset b k) b)
      (omega (arith, length-drop (text_place b + key_offset b k) b, header-within k h, (s.headers k h).0))

  pub value-length : (k : ℕ) → k < headers_in b → length (value_of b k) ≡ value_length b k
  unfolding value_of
  value-length k h =
      length-take-le (value_length b k) (drop (text_place b + value_offset b k) b)
      (omega (arith, length-drop (text_place b + value_offset b k) b, header-within k h, (s.headers k h).1.0))

  -- ---- the entries of a line

  -- the lines before one have no more entries than there are
  pub entries_below : (k : ℕ) → k ≤ lines_in b → entries_before b k ≤ moves_in b
  entries_below k h = omega (arith, sum_rises (λ k. entry_count b k) k (lines_in b) h, s.totals.1.0)

  -- they end among the entries
  pub entries-within : (k : ℕ) → k < lines_in b → first_entry b k + entry_count b k ≤ moves_in b
  entries-within k h = omega (arith, (s.lines k h).0, sum-within (λ k. entry_count b k) k (lines_in b) h, s.totals.1.0)

  -- a line has an entry
  pub some-entry : (k : ℕ) → k < lines_in b → 1 ≤ entry_count b k
  some-entry k h = (s.lines k h).1.0

  -- there is line 0
  pub some-line : 1 ≤ lines_in b
  some-line = s.totals.0

  -- which begins with entry 0
  pub first-none : first_entry b 0 ≡ 0
  first-none = (s.lines 0 some-line).0 ∙ sum-none (λ k. entry_count b k)

  -- ---- the comments of an entry

  -- the comments up to those of an entry are no more than all
  comments-before : (k : ℕ) → k < moves_in b → comments_before b k + comment_count b k ≤ comments_in b
  comments-before k h = omega (arith, sum-within (λ k. comment_count b k) k (moves_in b) h, s.totals.1.1.0)

  -- where its comments begin, if it has some
  pub first-comment : (k : ℕ) → k < moves_in b → first_comment b k ≡ pick (eqb (comment_count b k) 0) 0 (comments_before b k)
  first-comment k h =
      let l = drop (move_place b k) b in
      let f = pick (eqb (comment_count b k) 0) 0 (comments_before b k) in
      let e : l ≡ entry_bytes (entry_in l) f (comment_count b k) ++ drop 20 l =
      sym (take-append-drop 20 l) ∙ ap (λ (t : List ℕ). t ++ drop 20 l) (same_is _ _ (s.entries k h).1) in
      let small : f < 65536 =
      by_pick (λ (n : ℕ). n < 65536) (eqb (comment_count b k) 0) 0 (comments_before b k) (λ _. omega arith) (λ _. omega (arith, comments-before k h, comments-small)) in
      sym (le16-drop b (move_place b k) 16) ∙ ap (λ (t : List ℕ). le16 t 16) e ∙ first_back (entry_in l) f (comment_count b k) (drop 20 l) small

  -- they end among the comments
  pub comments-within : (k : ℕ) → k < moves_in b → first_comment b k + comment_count b k ≤ comments_in b
  comments-within k h =
      let e = first-comment k h in
      let m = comments-before k h in
      by_pick (λ (n : ℕ). first_comment b k ≡ n → first_comment b k + comment_count b k ≤ comments_in b) (eqb (comment_count b k) 0) 0 (comments_before b k)
      (λ _ z. omega arith) (λ _ z. omega arith) e
