-- The arms part the kinds by how long they are spelled.
-- Assumes nothing.
use native.Mathlib.Omega.{arith}
use Rattle.converter.proofs.Lengthy.{kind-none, kind-plain, kind-long, kind-high, kind-past}
use Rattle.converter.proofs.lengths.kind_length.Goals as goal

pub returns-in-1-to-9 : goal.returns-in-1-to-9
returns-in-1-to-9 c = grind (arith, kind-plain c.args.kind, kind-high c.args.kind)

pub returns-in-1-to-9-2 : goal.returns-in-1-to-9-2
returns-in-1-to-9-2 c = grind (arith, kind-plain c.args.kind, kind-high c.args.kind)

pub returns-in-10-to-12 : goal.returns-in-10-to-12
returns-in-10-to-12 c = grind (arith, kind-long c.args.kind)

pub returns-in_default : goal.returns-in_default
returns-in_default c = grind (arith, kind-none c.args.kind, kind-past c.args.kind)

pub returns-in_default-2 : goal.returns-in_default-2
returns-in_default-2 c = grind (arith, kind-none c.args.kind, kind-past c.args.kind)
