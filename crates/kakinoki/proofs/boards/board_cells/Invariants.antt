-- The cells from file 9 on make what those from here on make, and each turn puts one into its place.
-- Assumes nothing.
use mathlib.Core.Path.{◌≡◌}
use Rattle.kakinoki.specs.Boards.{cells_from}
use Rattle.kakinoki.proofs.boards.board_cells.Given as goal

abbrev pub invariant-loop-n : goal.invariant-loop-n
invariant-loop-n l = cells_from l.s l.rank 9 l.initial.next.at l.initial.cells ≡ cells_from l.s l.rank l.n l.next.at l.cells
