-- Every number of a block's lines, entries and comments is a byte: rows are made of 16-bit numbers and of entries that fit, and comments are
-- parts of a text of bytes.
-- Assumes nothing.
use Prim.Native.Nat.{ℕ, ◌-◌, ◌<◌}
use mathlib.Core.List.{List}
use lib.ListN.{length, get_or}
use Rattle.lists.specs.All.{All, none, next}
use Rattle.jkf.specs.Model.{Noted, Line}
use Rattle.jkf.specs.Attaching.{attach}
use Rattle.block.specs.Encode.{table, concat, line_row, line_step, entry_row, entry_step, comment_row, comment_step, entries_of, comments_of, comment_text}
use Rattle.moves.proofs.Answers.{line_is}
use Rattle.moves.proofs.Fits.{move-line-fits}
use Rattle.laws.proofs.EntryBytes.{entry-bytes-small, slot-bytes-small}
use Rattle.moves.proofs.Smalls.{Bytes, empty, bytes-from, bytes_take, bytes_drop, bytes-join, bytes_16}
use Rattle.plays.specs.Plays.{plays_at}
use Rattle.parser.proofs.Alls.{all_any}
use Rattle.laws.proofs.Playing.{comments-all, entries-all, notes_all, remarks_all}

-- ---- lists of bytes

pub bytes-concat : {X : Type 0} (part : X → List ℕ) {xs : List X} → All (λ x. Bytes (part x)) xs → Bytes (concat part xs)
unfolding concat
bytes-concat part none = empty
bytes-concat part (next h t) = bytes-join h (bytes-concat part t)

pub bytes-table : {S X : Type 0} (row : S → X → List ℕ) (step : S → X → S) {xs : List X} → All (λ x. (t : S) → Bytes (row t x)) xs
    → (t : S) → Bytes (table row step t xs)
unfolding table
bytes-table row step none t = empty
bytes-table row step (next {x} h u) t = bytes-join (h t) (bytes-table row step u (step t x))

-- ---- the tables

pub lines-bytes : (n : ℕ) (ls : List Line) → Bytes (table line_row line_step n ls)
lines-bytes n ls = bytes-table line_row line_step (all_any row ls) n
  where
    row : (l : Line) (t : ℕ) → Bytes (line_row t l)
    row l t = bytes-join (bytes-join (bytes-join (bytes_16 l.start) (bytes_16 t)) (bytes_16 (length l.entries))) (bytes_16 l.parent)

pub remarks_bytes : (n : ℕ) (cs : List (List ℕ)) → Bytes (table comment_row comment_step n cs)
remarks_bytes n cs = bytes-table comment_row comment_step (all_any row cs) n
  where
    row : (c : List ℕ) (t : ℕ) → Bytes (comment_row t c)
    row c t = bytes-join (bytes_16 t) (bytes_16 (length c))

pub entries-bytes : (s : List ℕ) (at n : ℕ) → Bytes (table entry_row entry_step n (entries_of (attach (plays_at s at).state)))
entries-bytes s at n =
    bytes-table entry_row entry_step
    (notes_all s Q (entries-all s Q (λ at n e c q t. bytes-from _ (entry-bytes-small e (line_is (move-line-fits s at) q).entry _ _))) at (λ t. bytes-from _ (slot-bytes-small _ _)))
    n
  where
    Q : Noted → Type 0
    Q e = (t : ℕ) → Bytes (entry_row t e)

-- ---- the texts

pub comments-bytes : (s : List ℕ) (at : ℕ) → ((k : ℕ) → get_or s k 0 < 256) → Bytes (comment_text (comments_of (entries_of (attach (plays_at s at).state))))
comments-bytes s at h =
    bytes-concat (λ (c : List ℕ). c) (remarks_all s Bytes (comments-all s Bytes (λ at from to end q. bytes_take (to.at - from.at) (bytes_drop from.at (bytes-from s h)))) at)
