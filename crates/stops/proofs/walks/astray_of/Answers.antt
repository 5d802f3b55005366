-- The line that is found is one of the k before, so its row's places fit; its first and last ply are read from that row.
-- Assumes nothing.
-- the line that is found is one of those before
use Prim.Native.Nat.{◌<◌}
use native.Mathlib.Omega.{arith}
use Rattle.jkf.specs.Following.{start_at}
use Rattle.jkf.proofs.Nears.{near_before}
use Rattle.stops.specs.inner.Tables.{astray_in}
use Rattle.stops.proofs.walks.astray_of.Goals as goal
use Rattle.stops.proofs.walks.astray_of.Goals.{After-nearest-parent}

parent-low : (c : After-nearest-parent) → c.nearest-parent.result < 8192
parent-low c =
    let a = c.args in
    let p = c.requires in
    omega (arith, c.nearest-parent.ensures.as_searched p.0, near_before (start_at a.rows.now) a.ply a.k p.1)

pub overflow_mul-parent : goal.overflow_mul-parent
overflow_mul-parent c = omega (arith, parent-low c)

pub overflow_mul-parent-2 : goal.overflow_mul-parent-2
overflow_mul-parent-2 c = omega (arith, parent-low (goal.at.overflow_mul-parent-2 c).After-nearest-parent)

pub overflow_add-parent : goal.overflow_add-parent
overflow_add-parent c = omega (arith, parent-low (goal.at.overflow_add-parent c).After-nearest-parent)

pub returns : goal.returns
unfolding astray_in
returns c = rw (← c.nearest-parent.ensures.as_searched c.requires.0, ← c.get16-first.ensures.0, ← c.get16-count.ensures.0, c.saturating_sub.ensures)
