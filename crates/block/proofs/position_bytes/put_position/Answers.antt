-- The rest of the buffer from the place on is lent to `put_front`; past the end nothing is stored.
-- Assumes nothing.
use Rattle.lent.proofs.Regions.{stored_none, stored_part}
use Rattle.block.specs.PositionBytes.{position_bytes}
use Rattle.block.proofs.position_bytes.put_position.Goals as goal

pub returns-then-out-at : goal.returns-then-out-at
returns-then-out-at c = let a = c.args in stored_none (position_bytes a.p) a.out.now a.at c.if-out-at.true

pub returns : goal.returns
returns c = let a = c.args in stored_part (position_bytes a.p) c.if-out-at.false c.put_front.ensures
