-- A position has 100 bytes, since its arrays have 81 and 14, so the test says whether they fit.
-- Assumes nothing.
use native.Mathlib.Omega.{arith}
use mathlib.Core.Path.{◌≡◌}
use lib.ListN.{length}
use borrow.Author.Rules.{rules}
use Rattle.block.proofs.PositionsBack.{position-length}
use Rattle.lent.proofs.Writes.{unwritten, written}
use Rattle.block.proofs.position_bytes.put_front.Goals as goal

pub returns-then-out-lt100 : goal.returns-then-out-lt100
returns-then-out-lt100 c =
    let p = c.args.p in
    let h : length p.cells ≡ 81 = search rules in
    let g : length p.hands ≡ 14 = search rules in
    unwritten _ _ (omega (arith, position-length p h g))

pub returns : goal.returns
returns c = written c.put_parts.ensures
