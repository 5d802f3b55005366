-- Laws of a diagram: how its cells and rows are read one after another, and that its cells are cells.
-- Assumes nothing.
use Rattle.std.specs.Prelude.{Option, Some, None}
use Prim.Native.Nat.{ℕ, zero, suc, ◌+◌, ◌*◌, ◌-◌, ◌≤◌, ◌<◌}
use native.Mathlib.Omega.{arith}
use mathlib.Core.Path.{◌≡◌, refl}
use mathlib.Core.List.{List, [], ◌∷◌}
use mathlib.Core.Bool.{true, false}
use lib.ListN.{set}
use borrow.Author.Tests.{le-leb, lt-leb}
use Rattle.lists.proofs.Laws.{by_pick}
use Rattle.text.specs.Text.{cursor, tag_at}
use Rattle.text.specs.declared.Cursor.{Cursor}
use Rattle.text.proofs.Answers.{by_place}
use Rattle.spell.proofs.Answers.{OnSpelled, is_as, is_not, by_spelled}
use Rattle.block.specs.Sound.{is_cell}
use Rattle.kakinoki.specs.Boards.{board, no_cells, no_board, white_at, cell_at, cells_from, row_end_at, row_at, rows_from, ruled_at, board_at}
use Rattle.spell.specs.Words.{files_tag, rule_tag, empty_tag}
use Rattle.kakinoki.specs.declared.Board.{Board}
use Rattle.kakinoki.proofs.Filled.{Filled, filled-set, filled_zeros}
use Rattle.kakinoki.proofs.Reach.{kind_known, spelled-map}

-- ---- the cells of a row

module _ (s : List ℕ) (rank : ℕ) where
  pub cells-more : (n at : ℕ) (cells : List ℕ) (v : ℕ) (c : Cursor) → 0 < n → cell_at s at ≡ Some (v, c)
      → cells_from s rank n at cells ≡ cells_from s rank (n - 1) c.at (set cells (9 * (n - 1) + rank) v)
  unfolding cells_from
  cells-more zero at cells v c h e = absurd (omega arith)
  cells-more (suc n) at cells v c h e = let z : suc n - 1 ≡ n = omega arith in rw (e, z)

  pub cells-none : (n at : ℕ) (cells : List ℕ) → 0 < n → cell_at s at ≡ None → cells_from s rank n at cells ≡ no_board
  unfolding cells_from
  cells-none zero at cells h e = absurd (omega arith)
  cells-none (suc n) at cells h e = rw e

  pub cells_done : (n at : ℕ) (cells : List ℕ) → n ≤ 0 → cells_from s rank n at cells ≡ board true cells (cursor at)
  unfolding cells_from
  cells_done zero at cells h = refl
  cells_done (suc n) at cells h = absurd (omega arith)

-- ---- the rows, of which those from a rank on are left

module _ (s : List ℕ) (rank at : ℕ) (cells : List ℕ) where
  module _ (b : Board) (h : rank < 9) (e : b ≡ row_at s rank at cells) where
    left : 9 - rank ≡ suc (9 - (rank + 1))
    left = omega arith

    pub rows_more : b.there ≡ true → rows_from s rank (9 - rank) at cells ≡ rows_from s (rank + 1) (9 - (rank + 1)) b.next.at b.cells
    unfolding rows_from
    rows_more t = rw (left, ← e, t)

    pub rows_none : b.there ≡ false → rows_from s rank (9 - rank) at cells ≡ no_board
    unfolding rows_from
    rows_none t = rw (left, ← e, t)

  pub rows_done : 9 ≤ rank → rows_from s rank (9 - rank) at cells ≡ board true cells (cursor at)
  unfolding rows_from
  rows_done h = let z : 9 - rank ≡ 0 = omega arith in rw z

-- ---- what is read is a cell

abbrev pub Cell : ℕ → Type 0
Cell v = is_cell v ≡ true

black_cell : (v : ℕ) → v ≤ 14 → Cell v
black_cell v h = rw (le-leb v 14 h)

white_cell : (v : ℕ) → 1 ≤ v → v ≤ 14 → Cell (v + 16)
white_cell v h k = rw (lt-leb (v + 16) 14 (omega arith), le-leb 17 (v + 16) (omega arith), le-leb (v + 16) 30 (omega arith))

cell_known : (s : List ℕ) (at : ℕ) → OnSpelled (λ v c. Cell v) (cell_at s at)
unfolding cell_at white_at
cell_known s at =
    by_place Q
    (by_place Q
    (by_place Q is_not (tag_at (118 ∷ []) s at) (λ c. by_spelled Q is_not (kind_known s c.at) (λ k d w. is_as (white_cell k w.least w.most))))
    (tag_at (32 ∷ []) s at)
    (λ c. spelled-map (λ k d w. black_cell k w.most) (kind_known s c.at)))
    (tag_at empty_tag s at)
    (λ c. is_as refl)
  where
    Q : Option (ℕ × Cursor) → Type 0
    Q = OnSpelled (λ v c. Cell v)

-- ---- the cells of a board are 81 cells

abbrev Made : Board → Type 0
Made b = Filled Cell 81 b.cells

none_made : Made no_board
none_made = filled_zeros 81 refl

cells-made : (s : List ℕ) (rank n at : ℕ) (cells : List ℕ) → Filled Cell 81 cells → Made (cells_from s rank n at cells)
unfolding cells_from
cells-made s rank zero at cells h = h
cells-made s rank (suc n) at cells h =
    by_spelled Made none_made (cell_known s at)
    (λ v c w. cells-made s rank n c.at (set cells (9 * n + rank) v) (filled-set (9 * n + rank) v w h))

row_made : (s : List ℕ) (rank at : ℕ) (cells : List ℕ) → Filled Cell 81 cells → Made (row_at s rank at cells)
unfolding row_at
row_made s rank at cells h =
    by_place Made none_made (tag_at (124 ∷ []) s at)
    (λ c. let b = cells_from s rank 9 c.at cells in
    by_pick Made b.there _ no_board
    (λ _. by_place Made none_made (row_end_at s b.next.at) (λ f. cells-made s rank 9 c.at cells h))
    (λ _. none_made))

rows_made : (s : List ℕ) (rank n at : ℕ) (cells : List ℕ) → Filled Cell 81 cells → Made (rows_from s rank n at cells)
unfolding rows_from
rows_made s rank zero at cells h = h
rows_made s rank (suc n) at cells h =
    let b = row_at s rank at cells in
    by_pick Made b.there _ no_board (λ _. rows_made s (rank + 1) n b.next.at b.cells (row_made s rank at cells h)) (λ _. none_made)

pub board-made : (s : List ℕ) (at : ℕ) → Filled Cell 81 (board_at s at).cells
unfolding board_at
board-made s at =
    by_place Made none_made (ruled_at files_tag s at)
    (λ c. by_place Made none_made (ruled_at rule_tag s c.at)
    (λ d. let b = rows_from s 0 9 d.at no_cells in
    by_pick Made b.there _ no_board
    (λ _. by_place Made none_made (ruled_at rule_tag s b.next.at) (λ f. rows_made s 0 9 d.at no_cells none_made))
    (λ _. none_made)))
