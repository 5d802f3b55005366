use native.Mathlib.Omega.{arith}
use mathlib.Core.Path.{◌≡◌, ap}
use Rattle.lent.proofs.Writes.{as_text}
use Rattle.converter.specs.Diagrams.{board_row, board_rows}
use Rattle.converter.proofs.Ranged.{up_to, wrote_none, wrote_more, room-more}
use Rattle.converter.proofs.starts.put_rows.Goals as goal

pub loop-rank-init : goal.loop-rank-init
loop-rank-init c = (omega arith, wrote_none _ _)

pub put_row-at-requires : goal.put_row-at-requires
unfolding board_rows
put_row-at-requires c =
    let l = c.loop-rank in
    (c.loop-rank-test.true, room-more (board_row c.args.cells.now) l.rank 9 l.invariant.1 c.loop-rank-test.true c.requires)

pub loop-rank-preserved : goal.loop-rank-preserved
loop-rank-preserved c = (omega arith, wrote_more _ c.loop-rank.rank c.loop-rank.invariant.1 c.put_row-at.ensures)

pub returns : goal.returns
unfolding board_rows
returns c =
    let l = c.loop-rank in
    let z : l.rank ≡ 9 = omega arith in
    as_text (ap (up_to (board_row c.args.cells.now)) z) l.invariant.1
