-- Texts that agree from the place to i are in the order of what is left of them (`Orders`).
-- Assumes nothing.
use mathlib.Core.Path.{◌≡◌}
use lib.ListN.{drop}
use Rattle.text.specs.Text.{before}
use Rattle.block.proofs.texts.rest_before.Given as goal

abbrev pub invariant-loop-i : goal.invariant-loop-i
invariant-loop-i l = before (drop l.from l.a) (drop l.from l.b) ≡ before (drop l.i l.a) (drop l.i l.b)
