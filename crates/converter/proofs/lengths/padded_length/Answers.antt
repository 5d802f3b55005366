-- A padded number is as long as the width, or as its digits where they are more; a number below 131072 has at most six.
-- Assumes nothing.
use native.Mathlib.Omega.{arith}
use Rattle.lent.proofs.Digits.{digits_six}
use Rattle.converter.proofs.Lengthy.{padded-wide, padded-long}
use Rattle.converter.proofs.lengths.padded_length.Goals as goal

pub returns : goal.returns
returns c =
    let w = c.args.width in
    let v = c.args.v in
    let n = c.decimal_len.result in (
      λ fill. grind (arith, padded-wide w v, padded-long w v n c.decimal_len.ensures),
      omega (arith, digits_six v (omega arith)),
    )
