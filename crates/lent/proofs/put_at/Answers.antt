-- The rest of the buffer from the place on is lent to `put_bytes`; past the end nothing is stored.
-- Assumes nothing.
use Rattle.lent.proofs.Regions.{stored_none, stored_part}
use Rattle.lent.proofs.put_at.Goals as goal

pub returns-then-out-at : goal.returns-then-out-at
returns-then-out-at c =
    let a = c.args in
    stored_none a.t.now a.out.now a.at c.if-out-at.true

pub returns : goal.returns
returns c = stored_part c.args.t.now c.if-out-at.false c.put_bytes.ensures
