-- A row on the board with a narrow name can be written (`narrow-fits`); any other is asked.
-- Assumes nothing.
use Rattle.block.specs.EntryBytes.{entry_in}
use Rattle.converter.specs.Entries.{can_write}
use Rattle.converter.specs.Said.{said_entry}
use Rattle.converter.proofs.Blocked.{narrow-fits}
use mathlib.Core.Path.{◌≡◌, sym, ap, ◌∙◌}
use Rattle.converter.proofs.checks.row_fits.Goals as goal
use Rattle.converter.proofs.checks.row_fits.Goals.{After-said_entry}

-- what is asked
said_is : (c : After-said_entry) → c.said_entry.result ≡ said_entry c.args.mode (entry_in c.args.row.now)
said_is c = c.said_entry.ensures ∙ ap (said_entry c.args.mode) c.entry_in.ensures

pub returns-then-is_narrow : goal.returns-then-is_narrow
returns-then-is_narrow c =
    let a = c.args in
    let (t, n) = c.is_narrow.ensures c.if-is_narrow.true in
    narrow-fits a.mode a.row.now t n

pub returns-in-Slot : goal.returns-in-Slot
unfolding can_write
returns-in-Slot c = ap can_write (sym c.in-Slot.is ∙ said_is (goal.at.returns-in-Slot c).After-said_entry)

pub returns-in-Moved : goal.returns-in-Moved
returns-in-Moved c = c.move_fits.ensures ∙ ap can_write (sym c.in-Moved.is ∙ said_is (goal.at.returns-in-Moved c).After-said_entry)

pub returns-in-End : goal.returns-in-End
unfolding can_write
returns-in-End c = ap can_write (sym c.in-End.is ∙ said_is (goal.at.returns-in-End c).After-said_entry)
