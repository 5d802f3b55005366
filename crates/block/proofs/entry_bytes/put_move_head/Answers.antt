-- Nine bytes, for which there is room: the fields' bytes are those of the target and the origin, and the sum of the marks is the definition's.
-- Assumes nothing.
use native.Mathlib.Omega.{arith}
use Rattle.block.proofs.Entering.{head-made}
use Rattle.lent.proofs.Writes.{as_text, wrote_all}
use Rattle.block.proofs.entry_bytes.put_move_head.Goals as goal

pub returns : goal.returns
returns c = as_text (head-made c.args.m _ _ _ _ _ c.target_field-to.ensures.2 c.origin_field-from.ensures.2 (omega (arith, c.target_field-to.ensures.0, c.origin_field-from.ensures.0, c.time_mark.ensures.0))) (wrote_all (omega arith) c.put_bytes.ensures)
