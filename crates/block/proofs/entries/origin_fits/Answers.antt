-- A known origin may be any; one that is not known has two zeros (`Fitting`).
-- Assumes nothing.
use Rattle.block.proofs.Fitting.{origin_is}
use borrow.Author.Rules.{rules}
use mathlib.Core.Path.{sym, ◌∙◌}
use Rattle.block.proofs.entries.origin_fits.Goals as goal

pub returns-then-row-eq1 : goal.returns-then-row-eq1
returns-then-row-eq1 c = sym (origin_is c.args.row.now c.requires ∙ search rules)

pub returns-then-row-eq0 : goal.returns-then-row-eq0
returns-then-row-eq0 c = sym (origin_is c.args.row.now c.requires ∙ search rules)

pub returns-else-row-eq0 : goal.returns-else-row-eq0
returns-else-row-eq0 c = sym (origin_is c.args.row.now c.requires ∙ search rules)
