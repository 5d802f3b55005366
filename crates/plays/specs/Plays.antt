-- Lines of play: comments, move lines with their comments, skip lines.                               (01, Reading rules: then)
-- Assumes nothing: these are definitions.
use Rattle.std.specs.Prelude.{ℕ, suc, ◌+◌, ◌-◌, List, [], ◌∷◌, length, take, drop, eqb}
use Rattle.lists.specs.Pick.{pick}
use Rattle.lists.specs.Repeat.{Step, more, stop, Ended, ended, on_step, many_from}
use Rattle.text.specs.Text.{on_place, on_number, blanks_at, digits_at}
use Rattle.jkf.specs.declared.Entry.{Entry}
use Rattle.jkf.specs.declared.Entry.TheVariants.{Slot}
use Rattle.jkf.specs.Model.{Noted}
use Rattle.jkf.specs.Attaching.{Play, play}
use Rattle.moves.specs.Moves.{on_remark, on_move_line, move_line_at, comment_line_at, skip_line_at}

abbrev pub noted : Entry → List (List ℕ) → Noted
noted e cs = record { what = e; comments = cs }

-- A comment's bytes.
unfoldable pub comment_item : List ℕ → ℕ → Step (List ℕ)
comment_item s at = on_remark (comment_line_at s at) (λ from to next. more next.at (take (to.at - from.at) (drop from.at s))) stop

unfoldable pub comments_at : List ℕ → ℕ → Ended (List (List ℕ))
comments_at s at = many_from (comment_item s) (length s) at

-- A move line with its comments, and what is made of its number and its entry.
abbrev pub line_item : {A : Type 0} → (ℕ → Noted → A) → List ℕ → ℕ → Step A
line_item f s at =
    on_move_line (move_line_at s at) (λ n e c. more (comments_at s c.at).at (f n (noted e (comments_at s c.at).state))) stop

-- Its entry.                                                                                         (the Rust's move_with_comments)
unfoldable pub entry_item : List ℕ → ℕ → Step Noted
entry_item = line_item (λ n e. e)

unfoldable pub entries_at : List ℕ → ℕ → Ended (List Noted)
entries_at s at = many_from (entry_item s) (length s) at

-- The numbers that are printed on the move lines of the same line of play.
unfoldable pub number_item : List ℕ → ℕ → Step ℕ
number_item = line_item (λ n e. n)

unfoldable pub numbers_at : List ℕ → ℕ → List ℕ
numbers_at s at = (many_from (number_item s) (length s) at).state

-- How many of some numbers, from the first on, go up by one from n.                                  (02, request (iii))
unfoldable pub in_sequence : ℕ → List ℕ → ℕ
in_sequence n [] = 0
in_sequence n (m ∷ ms) = let r = in_sequence (n + 1) ms in pick (eqb m n) (suc r) 0

-- A line of play as far as its numbers go up by one from n: it ends before the first move line that is numbered otherwise.
unfoldable pub sequence_at : ℕ → List ℕ → ℕ → Ended (List Noted)
sequence_at n s at = many_from (entry_item s) (in_sequence n (numbers_at s at)) at

-- The number that is printed at a place, 0 where there is none: a line of play starts at the number of its first move.
-- (01, Reading rules: a variation)
unfoldable pub ply_at : List ℕ → ℕ → ℕ
ply_at s at = on_number (digits_at 18446744073709551615 s (blanks_at s at)) (λ n c. n) 0

-- Past one skip line, if it is there.
unfoldable pub skipped_at : List ℕ → ℕ → ℕ
skipped_at s at = on_place (skip_line_at s at) (λ c. c.at) at

-- Past as many skip lines as there are.
abbrev pub skip_item : List ℕ → ℕ → Step (Unit {0})
skip_item s at = on_place (skip_line_at s at) (λ c. more c.at tt) stop

unfoldable pub skips_at : List ℕ → ℕ → ℕ
skips_at s at = (many_from (skip_item s) (length s) at).at

-- Move lines in a row, the comments of each behind it, and a skip line behind them all if one stands there.                        (the Rust's moves_with_index)
unfoldable pub play_item : List ℕ → ℕ → Step Play
play_item s at =
    let r = more (skipped_at s (entries_at s at).at) (play (ply_at s at) (entries_at s at).state) in
    pick (eqb (length (entries_at s at).state) 0) stop r

-- A line of play and the skip lines in front of it; where no line of play comes, they stay untaken.
unfoldable pub variation_item : List ℕ → ℕ → Step Play
variation_item s at = play_item s (skips_at s at)

unfoldable pub variations_at : List ℕ → ℕ → Ended (List Play)
variations_at s at = many_from (variation_item s) (length s) at

-- ---- all lines, from the place past the information blocks and the board

-- At most one skip line, then the comments of the initial slot.
abbrev pub slot_at : List ℕ → ℕ → Ended (List (List ℕ))
slot_at s at = comments_at s (skipped_at s at)

-- Past the main line, if it is there.
abbrev pub past_main : List ℕ → ℕ → ℕ
past_main s at = on_step (play_item s at) (λ next p. next) at

-- The main line starts at 0, whatever is printed in it, and its first entry is the slot.             (the Rust's main_moves)
unfoldable pub main_at : List ℕ → ℕ → Play
main_at s at = play 0 (noted Slot (slot_at s at).state ∷ (entries_at s (slot_at s at).at).state)

-- The main line and the variations.                                                                  (the Rust's entire_moves)
unfoldable pub plays_at : List ℕ → ℕ → Ended (List Play)
plays_at s at =
    let r = variations_at s (past_main s (slot_at s at).at) in
    ended r.at (main_at s at ∷ r.state)
