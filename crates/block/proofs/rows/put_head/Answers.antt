-- The 28 bytes are those of the head.
-- Assumes nothing.
use mathlib.Core.Path.{◌≡◌, ◌∙◌}
use Rattle.block.specs.Encode.{head_bytes}
use Rattle.block.proofs.rows.put_head.Goals as goal

pub returns : goal.returns
unfolding head_bytes
returns c =
    let a = c.args in
    let e : c.as_flattened.result.now ≡ head_bytes a.version a.total a.headers a.lines a.entries a.comments =
    c.as_flattened.ensures.value
    ∙ rw (
      c.to_le_bytes.ensures,
      c.to_le_bytes-2.ensures,
      c.to_le_bytes-3.ensures,
      c.to_le_bytes-4.ensures,
      c.to_le_bytes-5.ensures,
      c.to_le_bytes-6.ensures,
      c.bytes16.ensures,
      c.bytes16-2.ensures,
      c.bytes16-3.ensures,
      c.bytes16-4.ensures,
      c.bytes16-5.ensures,
      c.from.ensures,
      c.from-2.ensures,
      c.from-3.ensures,
      c.from-4.ensures,
    ) in
    rw (← e) c.put_at.ensures
