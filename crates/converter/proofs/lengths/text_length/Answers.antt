-- The text is the header, the position, the line of 40 bytes, line 0 and the variations that are shown, and the length of each is known.
-- Assumes nothing.
use native.Mathlib.Omega.{arith}
use mathlib.Core.Path.{ap}
use lib.ListN.{length}
use Rattle.converter.specs.Diagrams.{position_text}
use Rattle.converter.proofs.Counted.{record_parts}
use Rattle.converter.proofs.lengths.text_length.Goals as goal

pub returns : goal.returns
returns c =
    let e = ap (λ p. length (position_text p)) c.position_of.ensures in
    omega (arith, record_parts c.args.mode c.args.s.block.bytes.now c.args.s.lines c.args.s.counted)
