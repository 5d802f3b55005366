-- The entries passed all hold, and their comments end at `at` (`TablePasses`); what a row says is what is said of its entry (`Fitting`).
-- Assumes nothing.
use Prim.Native.Nat.{◌*◌, ◌≤◌}
use Rattle.block.specs.Decode.{comment_count}
use Rattle.block.specs.Sound.{entry_test}
use Rattle.block.proofs.TablePasses.{Passed}
use Rattle.block.proofs.entries.entries_sound.Given as goal

abbrev pub invariant-loop-k : goal.invariant-loop-k
invariant-loop-k l = (l.at ≤ 65535 * l.k) × Passed (entry_test l.b) (comment_count l.b) 0 l.k l.at
