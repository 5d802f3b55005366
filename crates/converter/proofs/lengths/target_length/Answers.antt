-- 同 and its space are six bytes; a square is its file and its rank, whose lengths are known.
-- Assumes nothing.
use native.Mathlib.Omega.{arith}
use Rattle.converter.proofs.Lengthy.{same_length, square_length}
use Rattle.converter.proofs.lengths.target_length.Goals as goal

pub returns-in-Same : goal.returns-in-Same
returns-in-Same c = (same_length c.in-Same.is, omega arith)

pub returns-in-Square : goal.returns-in-Square
returns-in-Square c = omega (arith, square_length c.in-Square.is)
