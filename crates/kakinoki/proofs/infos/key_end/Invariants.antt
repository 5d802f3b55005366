-- Where the key ends from the start is where it ends from here: past the run, a byte that ends no key is one byte more of it.
-- Assumes nothing.
use Prim.Native.Nat.{◌+◌, ◌-◌}
use mathlib.Core.Path.{◌≡◌}
use lib.ListN.{length}
use Rattle.text.specs.Text.{key_at}
use Rattle.kakinoki.proofs.infos.key_end.Given as goal

abbrev pub invariant-loop-at : goal.invariant-loop-at
invariant-loop-at l = l.initial.at + length (key_at l.s l.initial.at) ≡ l.at + length (key_at l.s l.at)

abbrev pub decreases-loop-at : goal.decreases-loop-at
decreases-loop-at l = length l.s - l.at
