-- An entry of the usual form is written as such; any other by what its row says.
-- Assumes nothing.
use Prim.Native.Nat.{ℕ}
use mathlib.Core.List.{List}
use mathlib.Core.Path.{◌≡◌, sym, ap, ◌∙◌}
use Rattle.block.specs.EntryBytes.{entry_in}
use Rattle.converter.specs.inner.Usuals.{usual_line}
use Rattle.lent.proofs.Writes.{as_text}
use Rattle.converter.specs.Entries.{entry_line}
use Rattle.converter.specs.Said.{said_entry}
use Rattle.lent.proofs.Room.{room_as}
use Rattle.converter.proofs.Usually.{usual-line}
use Rattle.converter.proofs.kif.put_row.Goals as goal
use Rattle.converter.proofs.kif.put_row.Goals.{In-Some}

-- its line is what the mode says of the row
line : (c : In-Some) → usual_line c.args.ply c.in-Some.e.row.now ≡ entry_line c.args.ply (said_entry c.args.mode (entry_in c.args.row.now))
line c =
    let e = c.in-Some.e in
    let (same, so) = rw c.in-Some.is at c.of.ensures in
    sym (usual-line e.row.now e.usual so c.args.ply) ∙ ap (λ (row : List ℕ). entry_line c.args.ply (said_entry c.args.mode (entry_in row))) same

pub put_usual-requires : goal.put_usual-requires
put_usual-requires c = (c.if-ply-lt1000.true, room_as (line (goal.at.put_usual-requires c).In-Some) c.requires)

pub returns : goal.returns
returns c = as_text (line (goal.at.returns c).In-Some) c.put_usual.ensures

pub put_entry_line-requires : goal.put_entry_line-requires
put_entry_line-requires c =
    room_as (ap (entry_line c.args.ply) (c.said_entry.ensures ∙ ap (said_entry c.args.mode) c.entry_in.ensures)) c.requires

pub returns-2 : goal.returns-2
returns-2 c =
    let a = c.args in
    as_text (ap (entry_line a.ply) (c.said_entry.ensures ∙ ap (said_entry a.mode) c.entry_in.ensures)) c.put_entry_line.ensures
