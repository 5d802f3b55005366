-- The lines passed all hold, and their entries end at `at` (`Passing`); so their parents are right, and the next line's is found by them.
-- Assumes nothing.
use Prim.Native.Nat.{◌*◌, ◌≤◌}
use Rattle.block.specs.Decode.{entry_count}
use Rattle.block.specs.Sound.{line_test}
use Rattle.block.proofs.TablePasses.{Passed}
use Rattle.block.proofs.places.lines_sound.Given as goal

abbrev pub invariant-loop-k : goal.invariant-loop-k
invariant-loop-k l = (l.at ≤ 65535 * l.k) × Passed (line_test l.b) (entry_count l.b) 0 l.k l.at
