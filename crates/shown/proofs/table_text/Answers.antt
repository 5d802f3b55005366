-- Past the end a table's bytes are 0, so that nothing is counted there; else the front of the rest is as long as counted.
-- Assumes nothing.
use Prim.Native.Nat.{◌+◌}
use mathlib.Core.Path.{ap₂, ◌∙◌}
use lib.ListN.{take, get_or-eq_default}
use Rattle.lent.proofs.Writes.{rest}
use Rattle.shown.proofs.table_text.Goals as goal

pub returns-then-table-at : goal.returns-then-table-at
returns-then-table-at c = rw (get_or-eq_default c.args.table.now 0 c.if-table-at.true)

pub returns : goal.returns
returns c =
    let a = c.args in
    c.front.ensures ∙ ap₂ take c.wide.ensures.0 (rest a.table.now (a.at + 1))
