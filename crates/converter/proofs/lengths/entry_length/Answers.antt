-- A line is the ply, a space, the move or ending, its time and an LF, and the length of each is known.
-- Assumes nothing.
use native.Mathlib.Omega.{arith}
use mathlib.Core.Path.{ap₂}
use lib.ListN.{length}
use Rattle.converter.specs.Entries.{time_text}
use Rattle.converter.proofs.Lengthy.{entry-parts}
use Rattle.converter.proofs.lengths.entry_length.Goals as goal

pub returns : goal.returns
returns c =
    let e = ap₂ (λ w t. length (time_text w t)) c.width_of.ensures.0 c.time_of.ensures in
    omega (arith, entry-parts c.args.ply c.args.e, c.padded_length.ensures.0 32)
