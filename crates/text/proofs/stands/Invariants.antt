-- What is left of the string stands at what is left of the text.
-- Assumes nothing.
use Prim.Native.Nat.{◌+◌}
use mathlib.Core.Path.{◌≡◌}
use lib.ListN.{drop}
use Rattle.text.specs.Text.{stands_at}
use Rattle.text.proofs.stands.Given as goal

abbrev pub invariant-loop-i : goal.invariant-loop-i
invariant-loop-i l = stands_at l.t l.s l.at ≡ stands_at (drop l.i l.t) l.s (l.at + l.i)
