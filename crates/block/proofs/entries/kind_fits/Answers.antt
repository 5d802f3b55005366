-- A slot is 15 zeros; any other entry has its time, and then the fields of its sort (`Fitting`).
-- Assumes nothing.
use Rattle.block.proofs.Fitting.{zeros, kind-slot, kind-later}
use borrow.Author.Rules.{rules}
use lib.Seq.{length-take-le}
use lib.ListN.{take}
use mathlib.Core.Path.{sym, ◌∙◌}
use native.Mathlib.Omega.{arith}
use Rattle.block.proofs.entries.kind_fits.Goals as goal

pub returns-then-k-eq0 : goal.returns-then-k-eq0
returns-then-k-eq0 c =
    let l = c.args.row.now in
    c.all_zero.ensures ∙ zeros (take 15 l) 15 (length-take-le 15 l (omega arith)) ∙ sym (kind-slot l c.requires c.args.k c.if-sort-eq0.true ∙ search rules)

pub returns-else-k-eq0 : goal.returns-else-k-eq0
returns-else-k-eq0 c = sym (kind-slot c.args.row.now c.requires c.args.k c.if-sort-eq0.true ∙ search rules)

pub returns-then-k-eq0-2 : goal.returns-then-k-eq0-2
returns-then-k-eq0-2 c = sym (kind-later c.args.row.now c.requires c.args.k c.if-sort-eq0.false ∙ search rules)

pub returns-in-1 : goal.returns-in-1
returns-in-1 c = sym (kind-later c.args.row.now c.requires c.args.k c.if-sort-eq0.false ∙ search rules)

pub returns-in-2 : goal.returns-in-2
returns-in-2 c = sym (kind-later c.args.row.now c.requires c.args.k c.if-sort-eq0.false ∙ search rules)

pub returns-in_default : goal.returns-in_default
returns-in_default c = sym (kind-later c.args.row.now c.requires c.args.k c.if-sort-eq0.false ∙ search rules)
