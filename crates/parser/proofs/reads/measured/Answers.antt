-- What filling admits is measured.
-- Assumes nothing.
use mathlib.Core.Path.{sym, ◌∙◌}
use Rattle.parser.proofs.Completing.{measured-refused, measured-begun}
use Rattle.parser.proofs.reads.measured.Goals as goal

pub returns-in-Err : goal.returns-in-Err
returns-in-Err c =
    let a = c.args in
    measured-refused a.sizes a.taken (sym c.in-Err.is ∙ c.admit.ensures)

pub returns-in-Ok : goal.returns-in-Ok
returns-in-Ok c =
    let a = c.args in
    measured-begun a.sizes a.taken (sym c.in-Ok.is ∙ c.admit.ensures)
