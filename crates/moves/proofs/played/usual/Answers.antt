-- The parts are those of the definition; the digits of the origin are bytes of digits, so nothing wraps.
-- Assumes nothing.
use native.Mathlib.Omega.{arith}
use Rattle.moves.specs.Moves.{finished}
use Rattle.moves.proofs.Usually.{origin-digits}
use Rattle.moves.proofs.played.usual.Goals as goal

pub overflow_sub-result-2 : goal.overflow_sub-result-2
overflow_sub-result-2 c = let a = c.args in omega (arith, origin-digits a.s.now a.at a.width c.requires)

pub overflow_sub-result-4 : goal.overflow_sub-result-4
overflow_sub-result-4 c = let a = c.args in omega (arith, origin-digits a.s.now a.at a.width c.requires)

pub returns : goal.returns
unfolding finished
returns c = rw (c.usual_kind.ensures, c.usual_mark.ensures, c.usual_aim.ensures)
