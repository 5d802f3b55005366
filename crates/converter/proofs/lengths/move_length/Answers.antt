-- A move is its target, kind, promotion and origin, whose lengths are known.
-- Assumes nothing.
use native.Mathlib.Omega.{arith}
use Rattle.converter.proofs.Lengthy.{move-length}
use Rattle.converter.proofs.lengths.move_length.Goals as goal

pub returns : goal.returns
returns c = omega (arith, move-length c.args.m)
