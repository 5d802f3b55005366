-- The digits read and those to follow make the lead (`Leading`): a byte of the key is the next, and a zero where the key has ended.
-- Assumes nothing.
use Prim.Native.Nat.{◌-◌}
use Rattle.text.specs.Text.{key_at}
use Rattle.sorted.proofs.Packs.{Leading}
use Rattle.sorted.proofs.lead.Given as goal

abbrev pub invariant-loop : goal.invariant-loop
invariant-loop l = Leading (key_at l.s l.at) (key_at l.s l.i) l.v (6 - l.counter)
