-- Where a line stands the place is in the text, and no number passes the place.
-- Assumes nothing.
use native.Mathlib.Omega.{arith}
use Rattle.reader.proofs.Turns.{answer_goes}
use Rattle.reader.proofs.with_line.Goals as goal

pub overflow_add-result : goal.overflow_add-result
overflow_add-result c =
    let h = answer_goes _ _ _ _ c.line_standing.ensures c.in-Played.is in
    omega (arith, h.past, h.within)

pub overflow_add-result-in-Remarked : goal.overflow_add-result-in-Remarked
overflow_add-result-in-Remarked c =
    let h = answer_goes _ _ _ _ c.line_standing.ensures c.in-Remarked.is in
    omega (arith, h.past, h.within)

pub overflow_add-result-in-Skipped : goal.overflow_add-result-in-Skipped
overflow_add-result-in-Skipped c =
    let h = answer_goes _ _ _ _ c.line_standing.ensures c.in-Skipped.is in
    omega (arith, h.past, h.within)
