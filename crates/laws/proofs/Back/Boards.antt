-- The diagram reads back: each cell is stored at its place, and all 81 places are stored.
-- Assumes nothing.
use Rattle.std.specs.Prelude.{Some}
use Prim.Native.Nat.{ℕ, zero, suc, ◌+◌, ◌*◌, ◌-◌, ◌≤◌}
use native.Mathlib.Omega.{arith}
use mathlib.Core.Path.{◌≡◌, refl, sym, ap, ◌∙◌}
use mathlib.Core.List.{List, [], ◌∷◌, ◌++◌, append_assoc}
use mathlib.Core.Bool.{Bool, true, false, not}
use lib.ListN.{length, get_or, set}
use lib.Dec.{eqb, leb}
use borrow.Author.Tests.{eqb-true, eqb-false, leb-true, not-true}
use Rattle.lists.specs.Pick.{pick}
use Rattle.lists.proofs.Laws.{pick_both, range_at}
use Rattle.lists.proofs.Stand.{Stands, Came, Reads, Any, then, came, stands_same}
use Rattle.text.specs.Text.{cursor}
use Rattle.spell.specs.Tables.{kinds, numerals}
use Rattle.spell.specs.Spell.{spelled, has_number}
use Rattle.spell.proofs.Written.{clash, board-kind-reads, numeral_reads}
use Rattle.spell.proofs.Counts.{tag_reads}
use Rattle.block.specs.Encode.{concat}
use Rattle.block.specs.Decode.{run}
use Rattle.block.specs.Sound.{is_cell}
use Rattle.block.proofs.Tabling.{run-all}
use Rattle.kakinoki.specs.Boards.{board, no_cells, white_at, cell_at, cells_from, row_end_at, row_at, rows_from, board_at}
use Rattle.spell.specs.Words.{files_tag, rule_tag, empty_tag}
use Rattle.converter.specs.Diagrams.{cell_text, cells_text, board_row, board_rows, board_text}
use Rattle.laws.proofs.Back.Leaves.{tag_fails, byte_fails, break-reads}

-- ---- a cell

kind_has : (n : ℕ) → 1 ≤ n → n ≤ 14 → has_number kinds n ≡ true
unfolding has_number
kind_has n h k = range_at (has_number kinds) 14 1 n refl h (omega arith)

-- a piece of Black is no empty cell
black-other : (n : ℕ) → 1 ≤ n → n ≤ 14 → clash empty_tag (32 ∷ spelled kinds n) ≡ false
unfolding spelled
black-other n h k = not-true _ (range_at (λ n. not (clash empty_tag (32 ∷ spelled kinds n))) 14 1 n refl h (omega arith))

cell_reads : (v : ℕ) → is_cell v ≡ true → Reads cell_at (λ e. Some (v, cursor e)) (cell_text v) Any
unfolding cell_text cell_at white_at
cell_reads v h = record { run = λ s at r st c. go (eqb v 0) (leb v 14) refl refl h s at r st }
  where
    go : (t u : Bool) → eqb v 0 ≡ t → leb v 14 ≡ u → pick u true (pick (leb 17 v) (leb v 30) false) ≡ true → (s : List ℕ) (at : ℕ) (r : List ℕ)
        → Stands s at (pick t empty_tag (pick u ((32 ∷ []) ++ spelled kinds v) ((118 ∷ []) ++ spelled kinds (v - 16))) ++ r) → Came (cell_at s at) (λ e. Some (v, cursor e)) s r
    go true u e f g s at r st =
        let q : v ≡ 0 = eqb-true v 0 e in
        then (tag_reads empty_tag) st tt λ e₁ i₁ l₁.
        record { end = e₁; is = rw (i₁, q); left = l₁ }
    go false true e f g s at r st =
        let ne : v ≡ 0 → ⊥ = eqb-false v 0 e in
        let k : v ≤ 14 = leb-true v 14 f in
        let z = tag_fails empty_tag (32 ∷ spelled kinds v) (black-other v (omega arith) k) r st in
        then (tag_reads (32 ∷ [])) st tt λ e₁ i₁ l₁.
        then (board-kind-reads v (kind_has v (omega arith) k)) l₁ tt λ e₂ i₂ l₂.
        record { end = e₂; is = rw (z, i₁, i₂); left = l₂ }
    go false false e f g s at r st =
        let (a, b) = pick_both (leb 17 v) (leb v 30) g in
        let a' : 17 ≤ v = leb-true 17 v a in
        let b' : v ≤ 30 = leb-true v 30 b in
        let q : v - 16 + 16 ≡ v = omega arith in
        let z₁ = byte_fails 32 (227 ∷ 131 ∷ 187 ∷ []) st refl in
        let z₂ = byte_fails 32 [] st refl in
        then (tag_reads (118 ∷ [])) st tt λ e₁ i₁ l₁.
        then (board-kind-reads (v - 16) (kind_has (v - 16) (omega arith) (omega arith))) l₁ tt λ e₂ i₂ l₂.
        record { end = e₂; is = rw (z₁, z₂, i₁, i₂, q); left = l₂ }

-- ---- rows

-- the last n cells of a rank, and the ranks from one on, stored as they are in c
unfoldable fill_row : List ℕ → ℕ → ℕ → List ℕ → List ℕ
fill_row c rank zero made = made
fill_row c rank (suc n) made = fill_row c rank n (set made (9 * n + rank) (get_or c (9 * n + rank) 0))

unfoldable fill_rows : List ℕ → ℕ → ℕ → List ℕ → List ℕ
fill_rows c rank zero made = made
fill_rows c rank (suc n) made = fill_rows c (rank + 1) n (fill_row c rank 9 made)

-- their texts
unfoldable last_cells : List ℕ → ℕ → ℕ → List ℕ
last_cells c rank zero = []
last_cells c rank (suc n) = cell_text (get_or c (9 * n + rank) 0) ++ last_cells c rank n

unfoldable last_rows : List ℕ → ℕ → ℕ → List ℕ
last_rows c rank zero = []
last_rows c rank (suc n) = board_row c rank ++ last_rows c (rank + 1) n

cells-text : (c : List ℕ) (rank : ℕ) → cells_text c rank ≡ last_cells c rank 9
unfolding cells_text concat run last_cells
cells-text c rank = refl

rows-text : (c : List ℕ) → board_rows c ≡ last_rows c 0 9
unfolding board_rows concat run last_rows
rows-text c = refl

row-parts : (a b r : List ℕ) → (((124 ∷ []) ++ a) ++ (((124 ∷ []) ++ b) ++ (10 ∷ []))) ++ r ≡ 124 ∷ (a ++ (124 ∷ (b ++ (10 ∷ r))))
row-parts a b r = ap (λ (l : List ℕ). 124 ∷ l) (append_assoc a (124 ∷ (b ++ (10 ∷ []))) r ∙ ap (λ (l : List ℕ). a ++ (124 ∷ l)) (append_assoc b (10 ∷ []) r))

pub board-parts : (f u m r : List ℕ) → (((((f ++ (10 ∷ [])) ++ u) ++ (10 ∷ [])) ++ m) ++ (u ++ (10 ∷ []))) ++ r ≡ f ++ (10 ∷ (u ++ (10 ∷ (m ++ (u ++ (10 ∷ r))))))
board-parts f u m r = simp append_assoc

-- 81 stores leave each element at its place
stored : (c : List ℕ) → fill_rows c 0 9 no_cells ≡ run (λ i. get_or c i 0) 0 81
unfolding run fill_row fill_rows
stored c = refl

module _ (c : List ℕ) (cells : (k : ℕ) → is_cell (get_or c k 0) ≡ true) where
  cells_came : (rank n : ℕ) (made : List ℕ) {s : List ℕ} {at : ℕ} (r : List ℕ) → Stands s at (last_cells c rank n ++ r)
      → Came (cells_from s rank n at made) (λ e. board true (fill_row c rank n made) (cursor e)) s r
  unfolding cells_from last_cells fill_row
  cells_came rank zero made {at = at} r st = record { end = at; is = refl; left = st }
  cells_came rank (suc n) made r st =
      then (cell_reads (get_or c (9 * n + rank) 0) (cells (9 * n + rank))) (simp append_assoc at st) tt λ e₁ i₁ l₁.
      came (cells_came rank n (set made (9 * n + rank) (get_or c (9 * n + rank) 0)) r l₁) λ e₂ i₂ l₂.
      record { end = e₂; is = rw (i₁, i₂); left = l₂ }

  numeral_has : (n : ℕ) → n ≤ 8 → has_number numerals (n + 1) ≡ true
  unfolding has_number
  numeral_has n h = range_at (has_number numerals) 9 1 (n + 1) refl (omega arith) (omega arith)

  row_came : (rank : ℕ) → rank ≤ 8 → (made : List ℕ) {s : List ℕ} {at : ℕ} (r : List ℕ) → Stands s at (board_row c rank ++ r)
      → Came (row_at s rank at made) (λ e. board true (fill_row c rank 9 made) (cursor e)) s r
  unfolding row_at row_end_at board_row
  row_came rank h made {s} {at} r st =
      let st' : Stands s at (124 ∷ (last_cells c rank 9 ++ (124 ∷ (spelled numerals (rank + 1) ++ (10 ∷ r))))) =
      stands_same (row-parts (last_cells c rank 9) (spelled numerals (rank + 1)) r) (rw (cells-text c rank) at st) in
      then (tag_reads (124 ∷ [])) st' tt λ e₁ i₁ l₁.
      came (cells_came rank 9 made (124 ∷ (spelled numerals (rank + 1) ++ (10 ∷ r))) l₁) λ e₂ i₂ l₂.
      then (tag_reads (124 ∷ [])) l₂ tt λ e₃ i₃ l₃.
      then (numeral_reads (rank + 1) (numeral_has rank h)) l₃ tt λ e₄ i₄ l₄.
      then break-reads l₄ tt λ e₅ i₅ l₅.
      record { end = e₅; is = rw (i₁, i₂, i₃, i₄, i₅); left = l₅ }

  rows_came : (n rank : ℕ) → rank + n ≤ 9 → (made : List ℕ) {s : List ℕ} {at : ℕ} (r : List ℕ) → Stands s at (last_rows c rank n ++ r)
      → Came (rows_from s rank n at made) (λ e. board true (fill_rows c rank n made) (cursor e)) s r
  unfolding rows_from last_rows fill_rows
  rows_came zero rank h made {at = at} r st = record { end = at; is = refl; left = st }
  rows_came (suc n) rank h made r st =
      came (row_came rank (omega arith) made _ (simp append_assoc at st)) λ e₁ i₁ l₁.
      came (rows_came n (rank + 1) (omega arith) (fill_row c rank 9 made) r l₁) λ e₂ i₂ l₂.
      record { end = e₂; is = rw (i₁, i₂); left = l₂ }

  -- all 81 places are stored
  all_stored : length c ≡ 81 → fill_rows c 0 9 no_cells ≡ c
  all_stored n = stored c ∙ run-all (λ i. get_or c i 0) 0 81 c (sym n) (λ i h. refl)

  pub board_came : length c ≡ 81 → {s : List ℕ} {at : ℕ} (r : List ℕ) → Stands s at (board_text c ++ r) → Came (board_at s at) (λ e. board true c (cursor e)) s r
  unfolding board_at board_text
  board_came n {s} {at} r st =
      let u : List ℕ = rule_tag ++ (10 ∷ r) in
      let st' : Stands s at (files_tag ++ (10 ∷ (rule_tag ++ (10 ∷ (last_rows c 0 9 ++ u))))) = stands_same (board-parts files_tag rule_tag (last_rows c 0 9) r) (rw (rows-text c) at st) in
      then (tag_reads files_tag) st' tt λ e₁ i₁ l₁.
      then break-reads l₁ tt λ e₂ i₂ l₂.
      then (tag_reads rule_tag) l₂ tt λ e₃ i₃ l₃.
      then break-reads l₃ tt λ e₄ i₄ l₄.
      came (rows_came 9 0 (omega arith) no_cells u l₄) λ e₅ i₅ l₅.
      then (tag_reads rule_tag) l₅ tt λ e₆ i₆ l₆.
      then break-reads l₆ tt λ e₇ i₇ l₇.
      record { end = e₇; is = rw (i₁, i₂, i₃, i₄, i₅, i₆, i₇, all_stored n); left = l₇ }
