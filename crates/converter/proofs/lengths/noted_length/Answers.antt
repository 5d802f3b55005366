-- An entry is its line and the comments that its row says, which lie among those of the block.
-- Assumes nothing.
-- the row
use Prim.Native.Nat.{◌*◌}
use native.Mathlib.Omega.{arith}
use mathlib.Core.Path.{◌≡◌, ap, ◌∙◌}
use lib.ListN.{length, drop, length-append}
use Rattle.block.specs.EntryBytes.{entry_in}
use Rattle.block.specs.Decode.{run, move_place, comment_of}
use Rattle.block.proofs.Cuts.{row_in}
use Rattle.converter.specs.Entries.{entry_line, remarks_text}
use Rattle.converter.specs.Said.{said_entry}
use Rattle.converter.proofs.Playing.{row_number, noted-text, noted_bare}
use Rattle.block.proofs.Within.{moves-small, comments-within, comments-small}
use Rattle.block.proofs.Sounding.{keeps}
use Rattle.converter.proofs.lengths.noted_length.Goals as goal
use Rattle.converter.proofs.lengths.noted_length.Goals.{After-rest-row}

row_is : (c : After-rest-row) → c.rest-row.result.now ≡ drop (move_place c.args.b.bytes.now c.args.k) c.args.b.bytes.now
row_is c =
    c.rest-row.ensures ∙ ap (drop (20 * c.args.k)) c.requires.2 ∙ row_in c.args.b.bytes.now c.args.k

pub overflow_mul-k : goal.overflow_mul-k
overflow_mul-k c = omega (arith, moves-small c.args.b.bytes.now (keeps c.args.b))

pub returns-then-count-eq0 : goal.returns-then-count-eq0
returns-then-count-eq0 c =
    let b = c.args.b.bytes.now in
    let r = row_is (goal.at.returns-then-count-eq0 c).After-rest-row in
    let e = noted_bare c.args.mode b c.args.ply c.args.k r (row_number b c.args.k 18 r c.get16-count.ensures.0) c.if-count-eq0.true in
    (c.row_length-n.ensures.0 ∙ ap length e, omega arith)

pub remarks_length-requires : goal.remarks_length-requires
remarks_length-requires c =
    let b = c.args.b.bytes.now in
    let k = c.args.k in
    let r = row_is (goal.at.remarks_length-requires c).After-rest-row in
    let e = row_number b k 16 r c.get16.ensures.0 in
    let f = row_number b k 18 r c.get16-count.ensures.0 in
    omega (arith, comments-within b (keeps c.args.b) k c.requires.0, comments-small b (keeps c.args.b))

pub returns : goal.returns
returns c =
    let b = c.args.b.bytes.now in
    let k = c.args.k in
    let ply = c.args.ply in
    let r = row_is (goal.at.returns c).After-rest-row in
    let t = entry_line ply (said_entry c.args.mode (entry_in c.rest-row.result.now)) in
    let e = ap length (noted-text c.args.mode b ply k r (row_number b k 16 r c.get16.ensures.0) (row_number b k 18 r c.get16-count.ensures.0)) in
    let l = length-append t (remarks_text (run (comment_of b) c.get16.result c.get16-count.result)) in
    (omega (arith, c.remarks_length.ensures.0, c.row_length-n.ensures.0), omega (arith, c.get16-count.ensures.1, c.remarks_length.ensures.1, c.row_length-n.ensures.1))
