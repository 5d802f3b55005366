-- No position is written with more than 2048 bytes, so there is room, and what was written is as long as the text.
-- Assumes nothing.
use Rattle.converter.proofs.Bounded.{position-short}
use Rattle.converter.proofs.lengths.position_length.Goals as goal

pub put_position-requires : goal.put_position-requires
put_position-requires c = position-short c.args.p
