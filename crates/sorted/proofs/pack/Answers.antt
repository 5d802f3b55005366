-- The lead has six digits and the place is below 65,536, so the pack fits; the byte facts come from reading the lead.
-- Assumes nothing.
use native.Mathlib.Omega.{arith}
use Rattle.sorted.proofs.Packs.{packed_is}
use Rattle.sorted.proofs.pack.Goals as goal

pub returns : goal.returns
returns c = packed_is _ _ _ _ _ (c.from.ensures, omega arith) c.lead.ensures c.from-2.ensures
