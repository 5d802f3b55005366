-- The diagram.                                                                                        (01, Reading rules: board)
-- Assumes nothing: these are definitions.
use Rattle.std.specs.Prelude.{ℕ, zero, suc, ◌+◌, ◌*◌, List, [], ◌∷◌, Bool, true, false, replicate, set, Option, Some, None}
use Rattle.lists.specs.Pick.{pick}
use Rattle.text.specs.Text.{cursor, on_place, tag_at, break_at}
use Rattle.text.specs.declared.Cursor.{Cursor}
use Rattle.spell.specs.Words.{files_tag, rule_tag, empty_tag}
use Rattle.spell.specs.Spell.{on_spelled, first_of}
use Rattle.spell.specs.Tables.{kinds, numerals}
use Rattle.kakinoki.specs.declared.Board.{Board}

abbrev pub board : Bool → List ℕ → Cursor → Board
board there cells next = record { there = there; cells = cells; next = next }

abbrev pub no_cells : List ℕ
no_cells = replicate 81 0

abbrev pub no_board : Board
no_board = board false no_cells (cursor 0)

-- What a board that is there is followed by.
abbrev pub on_board : Board → (List ℕ → Cursor → Board) → Board
on_board b f = pick b.there (f b.cells b.next) no_board

-- A piece of White: v, and the kind, which counts 16 more.
unfoldable pub white_at : List ℕ → ℕ → Option (ℕ × Cursor)
white_at s at = on_place (tag_at (118 ∷ []) s at) (λ c. on_spelled (first_of kinds s c.at) (λ k d. Some (k + 16, d)) None) None

-- An empty cell is 0; a piece of Black, after a space, is its kind.   (the Rust's board_piece)
unfoldable pub cell_at : List ℕ → ℕ → Option (ℕ × Cursor)
cell_at s at =
    on_place (tag_at empty_tag s at)
    (λ c. Some (0, c))
    (on_place (tag_at (32 ∷ []) s at)
    (λ c. first_of kinds s c.at)
    (white_at s at))

-- The last n cells of a row; the leftmost of nine is file 9. Cells stand by file, and in a file by rank.
unfoldable pub cells_from : List ℕ → ℕ → ℕ → ℕ → List ℕ → Board
cells_from s rank zero at cells = board true cells (cursor at)
cells_from s rank (suc n) at cells = on_spelled (cell_at s at) (λ v c. cells_from s rank n c.at (set cells (9 * n + rank) v)) no_board

-- |, any rank figure, break: what ends a row.
unfoldable pub row_end_at : List ℕ → ℕ → Option Cursor
row_end_at s at = on_place (tag_at (124 ∷ []) s at) (λ c. on_spelled (first_of numerals s c.at) (λ n d. break_at s d.at) None) None

-- A row of nine cells.                                                                                (the Rust's board_row)
unfoldable pub row_at : List ℕ → ℕ → ℕ → List ℕ → Board
row_at s rank at cells =
    on_place (tag_at (124 ∷ []) s at)
    (λ c. on_board (cells_from s rank 9 c.at cells) (λ made e. on_place (row_end_at s e.at) (λ f. board true made f) no_board))
    no_board

-- The rows from a rank on, of which n are left.
unfoldable pub rows_from : List ℕ → ℕ → ℕ → ℕ → List ℕ → Board
rows_from s rank zero at cells = board true cells (cursor at)
rows_from s rank (suc n) at cells = on_board (row_at s rank at cells) (λ made e. rows_from s (rank + 1) n e.at made)

-- A tag and a break: the head lines and the foot line.
abbrev pub ruled_at : List ℕ → List ℕ → ℕ → Option Cursor
ruled_at t s at = on_place (tag_at t s at) (λ c. break_at s c.at) None

-- Both head lines, nine rows, the foot line.                                                          (the Rust's board)
unfoldable pub board_at : List ℕ → ℕ → Board
board_at s at =
    on_place (ruled_at files_tag s at)
    (λ c. on_place (ruled_at rule_tag s c.at)
    (λ d. on_board (rows_from s 0 9 d.at no_cells) (λ cells e. on_place (ruled_at rule_tag s e.at) (λ f. board true cells f) no_board))
    no_board)
    no_board
