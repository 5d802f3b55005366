-- A diagram that is there goes on past its place.
-- Assumes nothing.
use Rattle.std.specs.Prelude.{Option, Some}
use Prim.Native.Nat.{ℕ, zero, suc, ◌+◌, ◌*◌, ◌≤◌, ◌<◌}
use native.Mathlib.Omega.{arith}
use mathlib.Core.Path.{◌≡◌, refl}
use mathlib.Core.List.{List, [], ◌∷◌}
use mathlib.Core.Bool.{true, false≢true}
use lib.ListN.{length, set}
use Rattle.lists.proofs.Laws.{by_pick}
use Rattle.text.specs.Text.{tag_at, break_at}
use Rattle.text.specs.declared.Cursor.{Cursor}
use Rattle.text.proofs.Laws.{no_past, break_after, tag_after, place_back}
use Rattle.text.proofs.Answers.{by_past}
use Rattle.spell.specs.Tables.{numerals}
use Rattle.spell.proofs.Answers.{OnSpelled, is_as, is_not, by_spelled}
use Rattle.kakinoki.specs.Boards.{no_cells, no_board, white_at, cell_at, cells_from, row_end_at, row_at, rows_from, ruled_at, board_at}
use Rattle.spell.specs.Words.{files_tag, rule_tag, empty_tag}
use Rattle.kakinoki.specs.declared.Board.{Board}
use Rattle.kakinoki.proofs.Reach.{spelled-map, first_after, kind_known}

-- a board that is there ends at a place or past it
abbrev pub Onward : ℕ → Board → Type 0
Onward at b = b.there ≡ true → at ≤ b.next.at

none : {at : ℕ} → Onward at no_board
none t = absurd (false≢true t)

cell_from : (s : List ℕ) (at : ℕ) → OnSpelled (λ v c. at ≤ c.at) (cell_at s at)
unfolding cell_at white_at
cell_from s at =
    by_past Q
    (by_past Q
    (by_past Q is_not (tag_at (118 ∷ []) s at) (λ c w. by_spelled Q is_not (kind_known s c.at) (λ k d h. is_as (behind (118 ∷ []) c d (omega arith) w h.after.past))))
    (tag_at (32 ∷ []) s at)
    (λ c w. spelled-map (λ k d h. behind (32 ∷ []) c d (omega arith) w h.after.past) (kind_known s c.at)))
    (tag_at empty_tag s at)
    (λ c w. let a = tag_after empty_tag s at c (omega arith) w in is_as (omega (arith, a.past)))
  where
    Q : Option (ℕ × Cursor) → Type 0
    Q = OnSpelled (λ v c. at ≤ c.at)

    behind : (t : List ℕ) (c d : Cursor) → 0 < length t → tag_at t s at ≡ Some c → c.at < d.at → at ≤ d.at
    behind t c d n w h = let a = tag_after t s at c n w in omega (arith, a.past)

cells-from : (s : List ℕ) (rank n at : ℕ) (cells : List ℕ) → Onward at (cells_from s rank n at cells)
unfolding cells_from
cells-from s rank zero at cells = λ t. omega arith
cells-from s rank (suc n) at cells =
    by_spelled (Onward at) none (cell_from s at) (λ v c h t. omega (arith, cells-from s rank n c.at (set cells (9 * n + rank) v) t))

row-end-from : (s : List ℕ) (at : ℕ) (c : Cursor) → row_end_at s at ≡ Some c → at ≤ c.at
unfolding row_end_at
row-end-from s at c =
    by_past Q (no_past c) (tag_at (124 ∷ []) s at)
    (λ d w. by_spelled Q (no_past c) (first_after 10 numerals refl s d.at)
    (λ n e a q. let t = tag_after (124 ∷ []) s at d (omega arith) w in
    let b = break_after s e.at c q in
    omega (arith, t.past, a.past, b.past)))
  where
    Q : Option Cursor → Type 0
    Q p = p ≡ Some c → at ≤ c.at

row_from : (s : List ℕ) (rank at : ℕ) (cells : List ℕ) → Onward at (row_at s rank at cells)
unfolding row_at
row_from s rank at cells =
    by_past (Onward at) none (tag_at (124 ∷ []) s at)
    (λ c w. let b : Board = cells_from s rank 9 c.at cells in
    by_pick (Onward at) b.there _ no_board
    (λ t. by_past (Onward at) none (row_end_at s b.next.at)
    (λ f e _. let a = tag_after (124 ∷ []) s at c (omega arith) w in
    omega (arith, a.past, cells-from s rank 9 c.at cells t, row-end-from s b.next.at f e)))
    (λ _. none))

rows-from : (s : List ℕ) (rank n at : ℕ) (cells : List ℕ) → Onward at (rows_from s rank n at cells)
unfolding rows_from
rows-from s rank zero at cells = λ t. omega arith
rows-from s rank (suc n) at cells =
    let b : Board = row_at s rank at cells in
    by_pick (Onward at) b.there _ no_board
    (λ t u. omega (arith, row_from s rank at cells t, rows-from s (rank + 1) n b.next.at b.cells u)) (λ _. none)

ruled_from : (t s : List ℕ) (at : ℕ) (c : Cursor) → 0 < length t → ruled_at t s at ≡ Some c → at ≤ c.at
ruled_from t s at c n e =
    let (d, p, q) = place_back _ (λ d. break_at s d.at) c e in
    let a = tag_after t s at d n p in
    let b = break_after s d.at c q in
    omega (arith, a.past, b.past)

pub board-from : (s : List ℕ) (at : ℕ) → Onward at (board_at s at)
unfolding board_at
board-from s at =
    by_past (Onward at) none (ruled_at files_tag s at)
    (λ c p. by_past (Onward at) none (ruled_at rule_tag s c.at)
    (λ d q. let b : Board = rows_from s 0 9 d.at no_cells in
    by_pick (Onward at) b.there _ no_board
    (λ t. by_past (Onward at) none (ruled_at rule_tag s b.next.at)
    (λ f e _. omega (arith, ruled_from files_tag s at c (omega arith) p, ruled_from rule_tag s c.at d (omega arith) q, rows-from s 0 9 d.at no_cells t, ruled_from rule_tag s b.next.at f (omega arith) e)))
    (λ _. none)))
