-- The lines passed so far are shown.
-- Assumes nothing.
use Prim.Native.Nat.{◌-◌, ◌≤◌}
use mathlib.Core.Path.{◌≡◌}
use mathlib.Core.List.{◌++◌}
use Rattle.block.specs.Decode.{run, line_in}
use Rattle.converter.specs.Said.{shown}
use Rattle.converter.proofs.checks.shown_lines.Given as goal

abbrev pub invariant-loop-k : goal.invariant-loop-k
invariant-loop-k l = (1 ≤ l.k) × (l.k ≤ l.count) × (shown (run (line_in l.b.bytes.now) 1 (l.count - 1)) ≡ run (line_in l.b.bytes.now) 1 (l.k - 1) ++ shown (run (line_in l.b.bytes.now) l.k (l.count - l.k)))
