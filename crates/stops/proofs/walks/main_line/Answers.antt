-- The slot and its comments are passed, the moves are counted, and their number is in the row.
-- Assumes nothing.
use Prim.Native.Nat.{ℕ, ◌+◌}
use native.Mathlib.Omega.{arith}
use mathlib.Core.Path.{ap, ◌∙◌}
use Rattle.block.specs.Encode.{line_bytes}
use Rattle.stops.specs.inner.Tables.{row_put}
use Rattle.stops.proofs.Walking.{main_few, main_next, main_end, main_entries}
use Rattle.stops.proofs.walks.main_line.Goals as goal

pub overflow_add-line : goal.overflow_add-line
overflow_add-line c = let n = main_few c.args.s.now c.args.begin.at c.skipped.ensures c.count_comments.ensures c.count_moves-line.ensures c.requires.0 c.requires.1 in omega (arith, n)

pub returns : goal.returns
returns c = record { at_value = main_next c.args.s.now c.args.begin.at c.skipped.ensures c.count_comments.ensures c.count_moves-line.ensures c.past.ensures; at_value_too = main_end c.args.s.now c.args.begin.at c.skipped.ensures c.count_comments.ensures c.count_moves-line.ensures; rows_after = c.put_line_row.ensures.bytes ∙ ap (λ (n : ℕ). row_put 0 (line_bytes 0 0 (1 + n) 0) c.args.rows.now) (main_entries c.args.s.now c.args.begin.at c.skipped.ensures c.count_comments.ensures c.count_moves-line.ensures) }
