-- The lines passed hang on lines not before line k, so what hangs from it ends among those from i on; and in version 1 that is what is cut (`run_is`).
-- Assumes nothing.
use Prim.Native.Nat.{◌+◌, ◌-◌, ◌≤◌, ◌<◌}
use mathlib.Core.Path.{◌≡◌}
use Rattle.jkf.specs.Trees.{not_before}
use Rattle.block.specs.Decode.{run, version_in, line_in, decode}
use Rattle.edit.specs.Edit.{removed_from}
use Rattle.edit.proofs.checks.removed_from.Given as goal

abbrev pub invariant-loop-i : goal.invariant-loop-i
invariant-loop-i l = (l.k < l.i) × (l.i ≤ l.lines) × (l.k + removed_from (version_in l.b.bytes.now) (decode l.b.bytes.now).lines l.k ≡ l.i + not_before l.k (run (line_in l.b.bytes.now) l.i (l.lines - l.i)))
