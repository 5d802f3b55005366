-- The row is stored where the line rows end.
-- Assumes nothing.
use mathlib.Core.Path.{sym, ◌∙◌}
use Rattle.filling.proofs.Putting.{line-none, line_done}
use Rattle.filling.proofs.puts.put_line.Goals as goal

pub returns-then-not-has_room : goal.returns-then-not-has_room
returns-then-not-has_room c =
    let w = (let a = c.args in line-none a.start a.parent a.first a.w a.out.now (sym c.has_room.ensures ∙ c.if-not-has_room.true)) in
    record { value = w.0; out_after = w.1 }

pub returns : goal.returns
returns c =
    let w = (let a = c.args in line_done a.start a.parent a.first a.w a.out.now (sym c.has_room.ensures ∙ c.if-not-has_room.false) c.saturating_sub-count.ensures c.put_line_row-lines.ensures) in
    record { value = w.0; out_after = w.1 }
