-- The row is put with the parent that was found, or nothing is (`row_put`, `none-put`).
-- Assumes nothing.
use mathlib.Core.Path.{sym, ◌∙◌}
use Rattle.filling.proofs.Hooking.{row-put, none-put}
use Rattle.filling.proofs.hangs.hang_line.Goals as goal

pub returns-in_err-parent : goal.returns-in_err-parent
returns-in_err-parent c =
    let w = (let a = c.args in none-put a.rows a.start a.first a.w a.out.now (sym c.in_err-parent.was ∙ c.hanging.ensures)) in
    record { value = c.from_residual.ensures ∙ w.0; out_after = w.1 }

pub returns : goal.returns
returns c =
    let w = (let a = c.args in row-put a.rows a.start a.first a.w a.out.now (sym c.in_ok-parent.was ∙ c.hanging.ensures) c.put_line.ensures.value c.put_line.ensures.out_after) in
    record { value = w.0; out_after = w.1 }
