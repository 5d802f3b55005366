-- Such three bytes are a character (`three-width`); elsewhere nothing is said.
-- Assumes nothing.
use native.Mathlib.Omega.{arith}
use borrow.Author.Tests.{eqb-true}
use Rattle.text.proofs.Passing.{three_width}
use Rattle.text.proofs.utf8.is_three.Goals as goal

pub returns : goal.returns
returns c = λ e. three_width c.args.s.now c.args.at (omega arith) (c.three_one.ensures.all (eqb-true _ _ e))
