-- What reading makes of the lines of play is well formed: the slot comes first and after it entries that were read, each line of play has
-- one, and comments are parts of a text that is well formed.
-- Assumes nothing.
use Rattle.std.specs.Prelude.{Option, Some, None}
use Prim.Native.Nat.{ℕ, zero, suc, ◌≤◌, ◌<◌}
use native.Mathlib.Omega.{arith}
use mathlib.Core.Path.{◌≡◌, refl, sym, subst}
use mathlib.Core.List.{List, [], ◌∷◌, ◌++◌}
use lib.ListN.{length, get_or}
use lib.Dec.{eqb}
use borrow.Author.Tests.{eqb-false}
use Rattle.lists.specs.All.{All, next}
use Rattle.lists.specs.Test.{each, claim}
use Rattle.lists.specs.Repeat.{more, stop}
use Rattle.lists.proofs.Laws.{by_pick}
use Rattle.text.specs.Utf8.{well_formed_bytes}
use Rattle.text.specs.declared.Cursor.{Cursor}
use Rattle.jkf.specs.Attaching.{all, Play, play, starts, counts, attach, all_hung}
use Rattle.jkf.specs.declared.Entry.{Entry}
use Rattle.jkf.specs.declared.Entry.TheVariants.{Slot, Moved, End}
use Rattle.jkf.specs.Model.{Noted}
use Rattle.block.specs.Encode.{concat, entries_of, comments_of}
use Rattle.block.specs.Sound.{valid, kind_test}
use Rattle.block.specs.Formed.{noted_of, line_fits}
use Rattle.moves.specs.Moves.{on_remark, on_move_line, move_line_at, comment_line_at}
use Rattle.moves.specs.declared.Remark.{Remark}
use Rattle.moves.specs.declared.MoveLine.{MoveLine}
use Rattle.moves.proofs.Answers.{line_is}
use Rattle.moves.specs.Fits.{EntryFits, play_fits, end_fits}
use Rattle.moves.proofs.Fits.{move-line-fits}
use Rattle.moves.proofs.Worded.{remark_well}
use Rattle.plays.specs.Plays.{noted, comment_item, comments_at, entry_item, entries_at, skipped_at, ply_at, skips_at, play_item, variation_item, variations_at, slot_at, past_main, main_at, plays_at}
use Rattle.parser.proofs.Alls.{OnStep, goes, stops, all-at, all_append, all-concat, many_all}
use Rattle.block.proofs.Attached.{attach-length, attach-entries, lines-hang}
use Rattle.plays.proofs.Items.{text_of}

-- ---- what holds of all that is read

module _ (s : List ℕ) where
  -- of comments, where it holds of the text of each comment line
  pub comments-all : (P : List ℕ → Type 0) → ((at : ℕ) (from to end : Cursor) → comment_line_at s at ≡ Some (record { from = from; to = to; next = end }) → P (text_of s from to))
      → (at : ℕ) → All P (comments_at s at).state
  unfolding comments_at comment_item
  comments-all P h at = many_all (λ at. go at (comment_line_at s at) refl) (length s) at
    where
      go : (at : ℕ) (r : Option Remark) → comment_line_at s at ≡ r → OnStep P (on_remark r (λ from to end. more end.at (text_of s from to)) stop)
      go at (Some r) q = goes (h at r.from r.to r.next q)
      go at None q = stops

  -- of entries, where it holds of that of each move line
  pub entries-all : (P : Noted → Type 0) → ((at n : ℕ) (e : Entry) (c : Cursor) → move_line_at s at ≡ Some (record { number = n; entry = e; next = c }) → P (noted e (comments_at s c.at).state))
      → (at : ℕ) → All P (entries_at s at).state
  unfolding entries_at entry_item
  entries-all P h at = many_all (λ at. go at (move_line_at s at) refl) (length s) at
    where
      go : (at : ℕ) (r : Option MoveLine) → move_line_at s at ≡ r
          → OnStep P (on_move_line r (λ n e c. more (comments_at s c.at).at (noted e (comments_at s c.at).state)) stop)
      go at (Some r) q = goes (h at r.number r.entry r.next q)
      go at None q = stops

  -- of variations, where it holds of each line of play that has an entry
  pub variations_all : (P : Play → Type 0) → ((start at : ℕ) → 1 ≤ length (entries_at s at).state → P (play start (entries_at s at).state))
      → (at : ℕ) → All P (variations_at s at).state
  unfolding variations_at variation_item play_item
  variations_all P h at = many_all (λ at. go (skips_at s at)) (length s) at
    where
      go : (at : ℕ) → OnStep P (play_item s at)
      go at =
          by_pick (OnStep P) (eqb (length (entries_at s at).state) 0) stop _ (λ _. stops)
          (λ e. let z : length (entries_at s at).state ≡ 0 → ⊥ = eqb-false _ _ e in goes (h (ply_at s at) at (omega arith)))

  -- of lines of play, where it holds of the main line too
  pub plays-all : (P : Play → Type 0) → ((start at : ℕ) → 1 ≤ length (entries_at s at).state → P (play start (entries_at s at).state))
      → (at : ℕ) → P (main_at s at) → All P (plays_at s at).state
  unfolding plays_at
  plays-all P h at p = next p (variations_all P h (past_main s (slot_at s at).at))

  -- ---- all entries: the slot, and those that are read

  unfoldable pub later_at : ℕ → List Noted
  later_at at = (entries_at s (slot_at s at).at).state ++ concat (λ (p : Play). p.entries) (variations_at s (past_main s (slot_at s at).at)).state

  pub entries_are : (at : ℕ) → entries_of (attach (plays_at s at).state) ≡ noted Slot (slot_at s at).state ∷ later_at at
  unfolding plays_at main_at concat later_at
  entries_are at = attach-entries (plays_at s at).state

  pub later-all : (P : Noted → Type 0) → ((at : ℕ) → All P (entries_at s at).state) → (at : ℕ) → All P (later_at at)
  unfolding later_at
  later-all P h at =
      all_append (h (slot_at s at).at) (all-concat (λ (p : Play). p.entries) (variations_all (λ p. All P p.entries) (λ start at _. h at) (past_main s (slot_at s at).at)))

  pub notes_all : (P : Noted → Type 0) → ((at : ℕ) → All P (entries_at s at).state) → (at : ℕ) → P (noted Slot (slot_at s at).state)
      → All P (entries_of (attach (plays_at s at).state))
  notes_all P h at p = subst (All P) (sym (entries_are at)) (next p (later-all P h at))

  -- all comments
  pub remarks_all : (P : List ℕ → Type 0) → ((at : ℕ) → All P (comments_at s at).state) → (at : ℕ)
      → All P (comments_of (entries_of (attach (plays_at s at).state)))
  remarks_all P h at =
      all-concat (λ (e : Noted). e.comments)
      (notes_all (λ e. All P e.comments) (entries-all (λ e. All P e.comments) (λ at n e c q. h c.at)) at (h (skipped_at s at)))

-- ---- the entries fit

pub entries_fit : (s : List ℕ) (at : ℕ) → All (λ (e : Noted). EntryFits e.what) (entries_at s at).state
entries_fit s = entries-all s (λ (e : Noted). EntryFits e.what) (λ at n e c q. (line_is (move-line-fits s at) q).entry)

-- an entry that was read, after the slot
pub later-kind : (k : ℕ) (e : Entry) → EntryFits e → claim (kind_test (suc k) e)
later-kind k Slot x' = elim x' [ ]
later-kind k (Moved m) (play_fits f) = (omega arith, (f.side, (f.some, (f.kind, f.mark))))
later-kind k (End x t) (end_fits _ _) = omega arith

kinds : (x : Noted) (es : List Noted) → x.what ≡ Slot → All (λ (e : Noted). EntryFits e.what) es
    → claim (each (length (x ∷ es)) (λ k. kind_test k (noted_of (x ∷ es) k).what))
kinds x es e h zero l = subst (λ (y : Entry). claim (kind_test 0 y)) (sym e) refl
kinds x es e h (suc k) l = later-kind k (noted_of es k).what (all-at _ h k (omega arith))

pub entries-kind : (s : List ℕ) (at : ℕ)
    → claim (each (length (entries_of (attach (plays_at s at).state))) (λ k. kind_test k (noted_of (entries_of (attach (plays_at s at).state)) k).what))
entries-kind s at =
    subst (λ (es : List Noted). claim (each (length es) (λ k. kind_test k (noted_of es k).what))) (sym (entries_are s at))
    (kinds (noted Slot (slot_at s at).state) (later_at s at) refl (later-all s (λ e. EntryFits e.what) (entries_fit s) at))

-- ---- comments are valid

pub comments-valid : (s : List ℕ) (at : ℕ) → well_formed_bytes s ≡ length s
    → claim (each (length (comments_of (entries_of (attach (plays_at s at).state)))) (λ k. valid (get_or (comments_of (entries_of (attach (plays_at s at).state))) k [])))
comments-valid s at w k h =
    all-at [] (remarks_all s (λ c. claim (valid c)) (comments-all s (λ c. claim (valid c)) (λ at from to end q. remark_well s at from to end w q)) at) k h

-- ---- the lines hang

pub first-start : (s : List ℕ) (at : ℕ) → starts (plays_at s at).state 0 ≡ 0
unfolding plays_at main_at
first-start s at = refl

main_some : (s : List ℕ) (at : ℕ) → 1 ≤ length (main_at s at).entries
unfolding main_at
main_some s at = omega arith

pub plays-some : (s : List ℕ) (at k : ℕ) → k < length (plays_at s at).state → 1 ≤ counts (plays_at s at).state k
plays-some s at k h = all-at (play 0 []) (plays-all s (λ p. 1 ≤ length p.entries) (λ start at n. n) at (main_some s at)) k h

pub some-lines : (s : List ℕ) (at : ℕ) → 1 ≤ length (attach (plays_at s at).state)
unfolding plays_at
some-lines s at = omega (arith, attach-length (plays_at s at).state)

pub lines_fit : (s : List ℕ) (at : ℕ) → all_hung (plays_at s at).state ≡ all
    → claim (each (length (attach (plays_at s at).state)) (line_fits 1 (attach (plays_at s at).state)))
lines_fit s at g = lines-hang (plays_at s at).state (first-start s at) (plays-some s at) g
