-- The two runs are parts of t, and the second begins no earlier than the first ends, so both fit.
-- Assumes nothing.
use native.Mathlib.Omega.{arith}
use mathlib.Core.Path.{sym}
use lib.ListN.{length-take, length-drop}
use lib.Seq.{length-take-le}
use Rattle.sorted.proofs.merge_halves.Goals as goal

pub slice_bounds-merge_runs-end : goal.slice_bounds-merge_runs-end
slice_bounds-merge_runs-end c =
    let a = c.args in
    sym (length-take-le a.i a.t.now (omega arith))

pub merge_runs-requires : goal.merge_runs-requires
merge_runs-requires c = simp (length-take, length-drop) (omega arith)
