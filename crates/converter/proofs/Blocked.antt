-- What stands in the way, one hand count, entry or line after the other; and which lines are shown.
--     narrow-fits a row that any mode can write
--     ..-more     the next one, and those after it
--     ..-none     there is none left
-- Assumes nothing.
use Rattle.std.specs.Prelude.{Option, Some, None}
use Prim.Native.Nat.{ℕ, suc, ◌+◌, ◌-◌, ◌/◌, ◌%◌, ◌≤◌, ◌<◌}
use native.Mathlib.Omega.{arith}
use mathlib.Core.Path.{◌≡◌, refl, sym, ap, ◌∙◌}
use mathlib.Core.List.{List, [], ◌∷◌, ◌++◌, append_assoc, append-nil}
use mathlib.Core.Bool.{Bool, true, false}
use lib.ListN.{length, drop, get_or}
use lib.Dec.{eqb, ltb}
use borrow.Author.Tests.{eq-eqb, ne_eqb, le-leb}
use Rattle.lists.specs.Pick.{pick}
use Rattle.jkf.specs.Model.{Noted, Line}
use Rattle.jkf.specs.Entries.{special_of}
use Rattle.jkf.specs.declared.Time.{Time}
use Rattle.jkf.specs.declared.Time.TheVariants.{Untimed, Timed}
use Rattle.jkf.specs.declared.Entry.TheVariants.{Slot, Moved, End}
use Rattle.block.specs.EntryBytes.{time_in, target_in, origin_in, move_in, entry_in}
use Rattle.block.specs.Decode.{run, lines_in, first_entry, entry_count, line_in, decode}
use Rattle.block.proofs.Tabling.{length_run, run-first, run_more, run-next, run_end}
use Rattle.converter.specs.Entries.{kind_width, promote_width, origin_width, move_width, target_on_board, time_has_room, can_write}
use Rattle.converter.specs.declared.Mode.{Mode}
use Rattle.converter.specs.Said.{said_mark, said_origin, said_time, said_move, said_entry, shown, said_lines, left_out}
use Rattle.converter.specs.Show.{on_obstacle, hand_obstacle, entry_obstacle, line_obstacle, zero_start}
use Rattle.converter.specs.inner.Lines.{noted_said, line_said, ShownLines}
use Rattle.converter.proofs.Saying.{mark-promotes, entries-said, lines-said, zero_none, zero_at}

-- ---- hands

module _ (hands : List ℕ) (i : ℕ) where
  pub hand-more : i < 14
      → hand_obstacle hands i (14 - i) ≡ pick (ltb 99 (get_or hands i 0)) (Some (i / 7, i % 7)) (hand_obstacle hands (i + 1) (14 - (i + 1)))
  unfolding hand_obstacle
  hand-more h = let e : 14 - i ≡ suc (14 - (i + 1)) = omega arith in ap (hand_obstacle hands i) e

  pub hand-none : 14 ≤ i → hand_obstacle hands i (14 - i) ≡ None
  unfolding hand_obstacle
  hand-none h = let e : 14 - i ≡ 0 = omega arith in ap (hand_obstacle hands i) e

-- ---- rows

origin-most : (o : Option (ℕ × ℕ)) → origin_width o ≤ 4
origin-most None = omega arith
origin-most (Some (x, y)) = omega arith

-- a time has room behind what is 13 wide
room_behind : (w : ℕ) (t : Time) → w ≤ 13 → time_has_room w t ≡ true
room_behind w Untimed h = refl
room_behind w (Timed now total) h = le-leb w 13 h

module _ (mode : Mode) (row : List ℕ) (e : target_on_board (target_in row) ≡ true) (h : kind_width (get_or row 2 0) + promote_width (get_or row 3 0) ≤ 4) where
  -- so a move on the board with such a name can be written in every mode
  narrow-move : can_write (Moved (said_move mode (move_in row))) ≡ true
  unfolding can_write said_move move_in move_width
  narrow-move =
      let mark = said_mark mode (get_or row 3 0) in
      let from = said_origin mode (origin_in row) in
      let p : promote_width mark ≡ promote_width (get_or row 3 0) = ap (λ (t : Bool). pick t 2 0) (mark-promotes mode (get_or row 3 0)) in
      rw e (room_behind (4 + kind_width (get_or row 2 0) + promote_width mark + origin_width from) (said_time mode (time_in row)) (omega (arith, p, h, origin-most from)))

  -- and what is no move always
  pub narrow-fits : true ≡ can_write (said_entry mode (entry_in row))
  unfolding can_write said_entry entry_in
  narrow-fits = sym (go (eqb (get_or row 0 0) 0) (eqb (get_or row 0 0) 2))
    where
      go : (t u : Bool) → can_write (said_entry mode (pick t Slot (pick u (End (special_of (get_or row 1 0)) (time_in row)) (Moved (move_in row))))) ≡ true
      go true u = refl
      go false true = refl
      go false false = narrow-move

-- ---- entries

module _ (line : ℕ) (f : ℕ → Noted) (first count i : ℕ) where
  pub entry_more : i < count
      → entry_obstacle line i (run f (first + i) (count - i))
      ≡ pick (can_write (f (first + i)).what) (entry_obstacle line (i + 1) (run f (first + (i + 1)) (count - (i + 1)))) (Some (line, i))
  unfolding entry_obstacle
  entry_more h =
      let e : first + i + 1 ≡ first + (i + 1) = omega arith in
      ap (entry_obstacle line i) (run-next f (first + i) count i h ∙ ap (λ (j : ℕ). f (first + i) ∷ run f j (count - (i + 1))) e)

  pub entry-none : count ≤ i → entry_obstacle line i (run f (first + i) (count - i)) ≡ None
  unfolding entry_obstacle
  entry-none h = ap (entry_obstacle line i) (run_end f (first + i) count i h)

-- ---- lines

module _ (g : ℕ → Line) (n k : ℕ) where
  pub line-more : k < n
      → line_obstacle k (run g k (n - k)) ≡ on_obstacle (entry_obstacle k 0 (g k).entries) (λ a b. Some (a, b)) (line_obstacle (k + 1) (run g (k + 1) (n - (k + 1))))
  unfolding line_obstacle
  line-more h = ap (line_obstacle k) (run-next g k n k h)

  pub line-none : n ≤ k → line_obstacle k (run g k (n - k)) ≡ None
  unfolding line_obstacle
  line-none h = ap (line_obstacle k) (run_end g k n k h)

  -- a variation that is shown, and one that ends what is shown
  pub shown-more : k < n → 1 ≤ k → ((g k).start ≡ 0 → ⊥)
      → run g 1 (k - 1) ++ shown (run g k (n - k)) ≡ run g 1 (k + 1 - 1) ++ shown (run g (k + 1) (n - (k + 1)))
  unfolding shown
  shown-more h l ne =
      let e : k - 1 + 1 ≡ k + 1 - 1 = omega arith in
      let d : 1 + (k - 1) ≡ k = omega arith in
      let m : run g 1 (k + 1 - 1) ≡ run g 1 (k - 1) ++ (g k ∷ []) =
      ap (run g 1) (sym e) ∙ run_more g 1 (k - 1) ∙ ap (λ (j : ℕ). run g 1 (k - 1) ++ (g j ∷ [])) d in
      let s : shown (run g k (n - k)) ≡ g k ∷ shown (run g (k + 1) (n - (k + 1))) = ap shown (run-next g k n k h) ∙ rw (ne_eqb (g k).start 0 ne) in
      ap (λ (ls : List Line). run g 1 (k - 1) ++ ls) s ∙ sym (ap (λ (ls : List Line). ls ++ shown (run g (k + 1) (n - (k + 1)))) m ∙ append_assoc (run g 1 (k - 1)) (g k ∷ []) (shown (run g (k + 1) (n - (k + 1)))))

  pub shown-stop : k < n → (g k).start ≡ 0 → run g 1 (k - 1) ++ shown (run g k (n - k)) ≡ run g 1 (k - 1)
  unfolding shown
  shown-stop h z =
      let s : shown (run g k (n - k)) ≡ [] = ap shown (run-next g k n k h) ∙ rw (eq-eqb (g k).start 0 z) in
      ap (λ (ls : List Line). run g 1 (k - 1) ++ ls) s ∙ append-nil (run g 1 (k - 1))

  pub shown-none : n ≤ k → run g 1 (k - 1) ++ shown (run g k (n - k)) ≡ run g 1 (k - 1)
  unfolding shown
  shown-none h = ap (λ (ls : List Line). run g 1 (k - 1) ++ ls) (ap shown (run_end g k n k h)) ∙ append-nil (run g 1 (k - 1))

-- what is found in a line's entries, once its row is read
pub found_is : (mode : Mode) (b : List ℕ) (k f n : ℕ) → f ≡ first_entry b k → n ≡ entry_count b k
    → entry_obstacle k 0 (run (noted_said mode b) f n) ≡ entry_obstacle k 0 (line_said mode b k).entries
found_is mode b k f n e d =
    ap (λ (j : ℕ). entry_obstacle k 0 (run (noted_said mode b) j n)) e
    ∙ ap (λ (m : ℕ). entry_obstacle k 0 (run (noted_said mode b) (first_entry b k) m)) d
    ∙ ap (entry_obstacle k 0) (sym (entries-said mode b k))

-- before the first variation nothing is shown yet
pub shown-first : (g : ℕ → Line) (n : ℕ) → shown (run g 1 (n - 1)) ≡ run g 1 (1 - 1) ++ shown (run g 1 (n - 1))
unfolding run
shown-first g n = refl

-- ---- the block's lines

module _ {b : List ℕ} {n : ℕ} (v : ShownLines b n) where
  lines_are : (decode b).lines ≡ line_in b 0 ∷ run (line_in b) 1 (lines_in b - 1)
  unfolding decode
  lines_are = run-first (line_in b) 0 (lines_in b) (omega (arith, v.some, v.most))

  pub lines_obstacle_is : (mode : Mode) → line_obstacle 0 (said_lines mode (decode b).lines) ≡ line_obstacle 0 (run (line_said mode b) 0 (n - 0))
  lines_obstacle_is mode =
      let z : n ≡ n - 0 = omega arith in
      ap (line_obstacle 0) (lines-said mode b v ∙ ap (run (line_said mode b) 0) z)

  -- no variation starts at 0, or the first line that is not shown does
  pub lost_none : lines_in b ≤ n → zero_start 1 (drop 1 (decode b).lines) ≡ None
  lost_none h = ap (λ (ls : List Line). zero_start 1 (drop 1 ls)) lines_are ∙ zero_none v h

  pub lost_some : n < lines_in b → zero_start 1 (drop 1 (decode b).lines) ≡ Some (n, 0)
  lost_some h = ap (λ (ls : List Line). zero_start 1 (drop 1 ls)) lines_are ∙ zero_at v h

  -- the lines after the n that are shown are left out
  pub left_out_is : left_out (decode b).lines ≡ lines_in b - n
  unfolding left_out
  left_out_is =
      let e = ap length v.later ∙ length_run (line_in b) 1 (n - 1) in
      ap left_out lines_are ∙ omega (arith, e, length_run (line_in b) 1 (lines_in b - 1), v.some, v.most)
