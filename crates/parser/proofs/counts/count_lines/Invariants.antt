-- Each turn counts one line more, and skip lines with no line after them end it.
-- Assumes nothing.
use Rattle.parser.proofs.Sizing.{Sizing}
use Rattle.parser.specs.inner.Lines.{main_extents}
use lib.ListN.{length}
use mathlib.Core.Path.{◌≡◌}
use Prim.Native.Nat.{ℕ, ◌-◌, ◌≤◌}
use Rattle.parser.proofs.counts.count_lines.Given as goal

abbrev pub invariant-loop-line : goal.invariant-loop-line
invariant-loop-line l = (at : ℕ) → at ≤ length l.s → l.initial.all ≡ main_extents l.s at → Sizing l.s at l.all

abbrev pub decreases-loop-line : goal.decreases-loop-line
decreases-loop-line l = length l.s - l.all.next.at
