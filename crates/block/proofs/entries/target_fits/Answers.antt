-- A square may be any; 同 has two zeros (`Fitting`).
-- Assumes nothing.
use Rattle.block.proofs.Fitting.{target_is}
use borrow.Author.Rules.{rules}
use mathlib.Core.Path.{sym, ◌∙◌}
use Rattle.block.proofs.entries.target_fits.Goals as goal

pub returns-then-row-ne1 : goal.returns-then-row-ne1
returns-then-row-ne1 c = sym (target_is c.args.row.now c.requires ∙ search rules)

pub returns-then-row-eq0 : goal.returns-then-row-eq0
returns-then-row-eq0 c = sym (target_is c.args.row.now c.requires ∙ search rules)

pub returns-else-row-eq0 : goal.returns-else-row-eq0
returns-else-row-eq0 c = sym (target_is c.args.row.now c.requires ∙ search rules)
