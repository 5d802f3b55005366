use Prim.Native.Nat.{ℕ, ◌+◌, ◌*◌, ◌-◌}
use native.Mathlib.Omega.{arith}
use mathlib.Core.Path.{◌≡◌, ap, ◌∙◌}
use lib.ListN.{get_or}
use Rattle.lent.proofs.Writes.{as_text}
use Rattle.converter.specs.Diagrams.{cell_text, cells_text}
use Rattle.converter.proofs.Ranged.{up_to, wrote_none, wrote_more, room-more}
use Rattle.converter.proofs.Cased.{cell_piece}
use Rattle.converter.proofs.starts.put_cells.Goals as goal

pub loop-file-init : goal.loop-file-init
loop-file-init c = wrote_none _ _

pub put_cell-at-requires : goal.put_cell-at-requires
unfolding cells_text
put_cell-at-requires c =
    let a = c.args in
    let l = c.loop-file in
    let e : l.file - 1 ≡ 8 - (9 - l.file) = omega arith in
    rw (c.peek.ensures, e) (room-more (cell_piece a.cells.now a.rank) (9 - l.file) 9 l.invariant (omega arith) c.requires.1)

pub loop-file-preserved : goal.loop-file-preserved
loop-file-preserved c =
    let a = c.args in
    let l = c.loop-file in
    let e : l.file - 1 ≡ 8 - (9 - l.file) = omega arith in
    let n : 9 - l.file + 1 ≡ 9 - (l.file - 1) = omega arith in
    let p = ap cell_text (c.peek.ensures ∙ ap (λ (j : ℕ). get_or a.cells.now (9 * j + a.rank) 0) e) in
    let f = cell_piece a.cells.now a.rank in
    as_text (ap (up_to f) n) (wrote_more f (9 - l.file) l.invariant (as_text p c.put_cell-at.ensures))

pub returns : goal.returns
unfolding cells_text
returns c =
    let l = c.loop-file in
    let z : 9 - l.file ≡ 9 = omega arith in
    as_text (ap (up_to (cell_piece c.args.cells.now c.args.rank)) z) l.invariant
