-- The head takes 9 bytes and the time 6, so there is room for each part, and the last five bytes are the zero and the two numbers.
-- Assumes nothing.
use native.Mathlib.Omega.{arith}
use mathlib.Core.List.{[], ◌∷◌, ◌++◌}
use Rattle.lent.specs.Bytes.{bytes16}
use Rattle.block.proofs.Joining.{then-all}
use Rattle.block.proofs.Entering.{head-length, time-length, parts-made}
use Rattle.lent.proofs.Writes.{as_text, wrote_length, rest_length, then}
use Rattle.block.proofs.entry_bytes.put_parts.Goals as goal

pub put_time-requires : goal.put_time-requires
put_time-requires c =
    let w = c.put_head-a.ensures in
    omega (arith, head-length c.args.e, w.count, wrote_length w, rest_length c.put_head-a.new.out c.put_head-a.result)

pub returns : goal.returns
returns c =
    let a = c.args in
    let w = c.put_head-a.ensures in
    let v = c.put_time.ensures in
    let h = head-length a.e in
    let t = time-length c.time_of.result in
    as_text (parts-made a.e c.time_of.result a.first a.count c.time_of.ensures) (then-all ((0 ∷ []) ++ bytes16 a.first ++ bytes16 a.count) (then w v) (omega (arith, w.count, v.count)) (rw (c.bytes16-first.ensures, c.bytes16-count.ensures) at c.put_bytes.ensures))
