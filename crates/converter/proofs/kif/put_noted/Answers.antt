-- The line of the entry and the comments that its row says are the two pieces of its text; where it says none, the line is all.
-- Assumes nothing.
-- the row
use Prim.Native.Nat.{◌*◌}
use native.Mathlib.Omega.{arith}
use mathlib.Core.Path.{◌≡◌, refl, ap, ◌∙◌}
use lib.ListN.{drop}
use Rattle.block.specs.EntryBytes.{entry_in}
use Rattle.block.specs.Decode.{run, move_place, comment_of, noted_in}
use Rattle.block.proofs.Cuts.{row_in}
use Rattle.lent.proofs.Writes.{as_text, then, sum_fits, within}
use Rattle.converter.specs.Entries.{entry_line, remarks_text}
use Rattle.converter.specs.Said.{said_entry}
use Rattle.converter.proofs.Playing.{row_number, noted-text, noted_bare}
use Rattle.lent.proofs.Room.{room_after, room_as, room-front}
use Rattle.block.proofs.Within.{moves-small, comments-within, comments-small}
use Rattle.block.proofs.Sounding.{keeps}
use Rattle.converter.proofs.kif.put_noted.Goals as goal
use Rattle.converter.proofs.kif.put_noted.Goals.{After-rest-row}

row_is : (c : After-rest-row) → c.rest-row.result.now ≡ drop (move_place c.args.b.bytes.now c.args.k) c.args.b.bytes.now
row_is c =
    c.rest-row.ensures ∙ ap (drop (20 * c.args.k)) c.requires.2 ∙ row_in c.args.b.bytes.now c.args.k

pub overflow_mul-k : goal.overflow_mul-k
overflow_mul-k c = omega (arith, moves-small c.args.b.bytes.now (keeps c.args.b))

pub put_row-n-requires : goal.put_row-n-requires
put_row-n-requires c =
    let b = c.args.b.bytes.now in
    let h = room_as (noted-text c.args.mode b c.args.ply c.args.k ((row_is (goal.at.put_row-n-requires c).After-rest-row)) refl refl) c.requires.1 in
    room-front (entry_line c.args.ply (said_entry c.args.mode (entry_in c.rest-row.result.now))) (remarks_text (noted_in b c.args.k).comments) h

pub returns-then-count-eq0 : goal.returns-then-count-eq0
returns-then-count-eq0 c =
    let b = c.args.b.bytes.now in
    let r = row_is (goal.at.returns-then-count-eq0 c).After-rest-row in
    as_text (noted_bare c.args.mode b c.args.ply c.args.k r (row_number b c.args.k 18 r c.get16-count.ensures.0) c.if-count-eq0.true) c.put_row-n.ensures

pub slice_bounds-put_remarks-count : goal.slice_bounds-put_remarks-count
slice_bounds-put_remarks-count c = within c.put_row-n.ensures

pub slice_bounds-put_remarks-start : goal.slice_bounds-put_remarks-start
slice_bounds-put_remarks-start c = slice_bounds-put_remarks-count c

pub put_remarks-requires : goal.put_remarks-requires
put_remarks-requires c =
    let b = c.args.b.bytes.now in
    let k = c.args.k in
    let r = row_is (goal.at.put_remarks-requires c).After-rest-row in
    let e = row_number b k 16 r c.get16.ensures.0 in
    let f = row_number b k 18 r c.get16-count.ensures.0 in (
      omega (arith, comments-within b (keeps c.args.b) k c.requires.0, comments-small b (keeps c.args.b)),
      room_after (remarks_text (run (comment_of b) c.get16.result c.get16-count.result)) c.put_row-n.ensures (room_as (noted-text c.args.mode b c.args.ply k r e f) c.requires.1),
    )

pub returns : goal.returns
returns c =
    let b = c.args.b.bytes.now in
    let k = c.args.k in
    let r = row_is (goal.at.returns c).After-rest-row in
    let e = row_number b k 16 r c.get16.ensures.0 in
    let f = row_number b k 18 r c.get16-count.ensures.0 in
    as_text (noted-text c.args.mode b c.args.ply k r e f) (then c.put_row-n.ensures c.put_remarks.ensures)

pub overflow_add-result : goal.overflow_add-result
overflow_add-result c = sum_fits (returns c) c.well_formed.0.0
