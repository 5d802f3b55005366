-- Four tests in their order.
-- Assumes nothing.
use native.Mathlib.Omega.{arith}
use mathlib.Core.Path.{sym, ◌∙◌}
use Rattle.edit.proofs.Texts.{too_long, none-numbered, part_numbered, all-numbered}
use Rattle.edit.proofs.checks.is_variation.Goals as goal

pub returns-then-end-t : goal.returns-then-end-t
returns-then-end-t c =
    let p = c.requires in
    let (short, some, end) = c.if-end-t.true in
    rw c.well_formed-then-end-t.ensures (sym (all-numbered c.args.t.now short (λ e. some (p.0 ∙ e)) (sym p.1 ∙ end)))

pub returns-else-end-t : goal.returns-else-end-t
returns-else-end-t c = grind (arith, too_long c.args.t.now, none-numbered c.args.t.now, part_numbered c.args.t.now)
