-- The line is as long as its parts (`usual-long`, `usual-short`).
-- Assumes nothing.
use native.Mathlib.Omega.{arith}
use mathlib.Core.Path.{sym, ◌∙◌}
use Rattle.converter.proofs.Usually.{usual_short, usual_long}
use Rattle.converter.proofs.usuals.usual_length.Goals as goal

pub returns-then-is_long : goal.returns-then-is_long
returns-then-is_long c =
    (usual_long c.args.e.row.now c.args.e.usual (sym c.is_long.ensures ∙ c.if-is_long.true), omega arith)

pub returns-else-is_long : goal.returns-else-is_long
returns-else-is_long c =
    (usual_short c.args.e.row.now c.args.e.usual (sym c.is_long.ensures ∙ c.if-is_long.false), omega arith)
