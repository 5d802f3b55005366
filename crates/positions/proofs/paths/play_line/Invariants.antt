-- The answers are those of the definition, test by test.
-- Assumes nothing.
use Prim.Native.Nat.{◌-◌}
use mathlib.Core.Path.{◌≡◌}
use Rattle.block.specs.Decode.{run}
use Rattle.positions.specs.Paths.{entry_place, play_all}
use Rattle.positions.proofs.paths.play_line.Given as goal

abbrev pub invariant-loop-i : goal.invariant-loop-i
invariant-loop-i l = play_all l.b (run (entry_place l.k) 0 l.n) l.initial.w ≡ play_all l.b (run (entry_place l.k) l.i (l.n - l.i)) l.w
