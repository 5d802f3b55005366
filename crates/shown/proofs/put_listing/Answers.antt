-- The first line takes at most 53 bytes of the room that was asked for; what is left is enough for the lines.
-- Assumes nothing.
use native.Mathlib.Omega.{arith}
use mathlib.Core.Path.{ap}
use lib.ListN.{length}
use Rattle.lent.proofs.Writes.{as_text, then, wrote_length, rest_length}
use Rattle.shown.specs.Listing.{rows_text}
use Rattle.shown.proofs.Texts.{read_fits, listed-none, listed-all}
use Rattle.shown.proofs.put_listing.Goals as goal

pub returns-then-out-count : goal.returns-then-out-count
returns-then-out-count c =
    let a = c.args in
    listed-none a.taken a.b.now a.out.now (omega arith)

pub put_lines-requires : goal.put_lines-requires
put_lines-requires c =
    let a = c.args in
    let w = read_fits a.taken (length a.b.now) (omega arith) (omega arith) (omega arith) c.put_read-n.ensures in
    (omega arith, omega (arith, wrote_length w.0, w.1, rest_length c.put_read-n.new.out c.put_read-n.result))

pub returns : goal.returns
returns c =
    let a = c.args in
    let w = read_fits a.taken (length a.b.now) (omega arith) (omega arith) (omega arith) c.put_read-n.ensures in
    listed-all a.taken a.b.now (omega arith) (then w.0 (as_text (ap (rows_text a.b.now) c.lines_in-count.ensures.0) c.put_lines.ensures))
