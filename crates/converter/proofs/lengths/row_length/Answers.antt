-- An entry of the usual form has one of two lengths; any other is measured by what its row says.
-- Assumes nothing.
use Prim.Native.Nat.{ℕ}
use mathlib.Core.List.{List}
use mathlib.Core.Path.{sym, ap, ◌∙◌}
use Rattle.block.specs.EntryBytes.{entry_in}
use lib.ListN.{length}
use Rattle.converter.specs.Entries.{entry_line}
use Rattle.converter.specs.Said.{said_entry}
use Rattle.converter.proofs.Usually.{usual-line}
use Rattle.converter.proofs.lengths.row_length.Goals as goal

pub returns : goal.returns
returns c =
    let a = c.args in
    let e = c.in-Some.e in
    let (same, so) = rw c.in-Some.is at c.of.ensures in
    let line = sym (usual-line e.row.now e.usual so a.ply) ∙ ap (λ (row : List ℕ). entry_line a.ply (said_entry a.mode (entry_in row))) same in
    (c.usual_length.ensures.0 a.ply c.if-ply-lt1000.true ∙ ap length line, c.usual_length.ensures.1)

pub returns-2 : goal.returns-2
returns-2 c =
    let a = c.args in
    (c.entry_length.ensures.0 ∙ ap (λ e. length (entry_line a.ply e)) (c.said_entry.ensures ∙ ap (said_entry a.mode) c.entry_in.ensures), c.entry_length.ensures.1)
