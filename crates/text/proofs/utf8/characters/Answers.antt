-- ASCII and then characters of three bytes are one run; where they are none, the width says whether a character stands here (`char-run`).
-- Assumes nothing.
use native.Mathlib.Omega.{arith}
use Rattle.text.proofs.Widths.{char_within}
use Rattle.text.proofs.Passing.{run_on, char_run}
use Rattle.text.proofs.utf8.characters.Goals as goal

pub returns-then-e-at : goal.returns-then-e-at
returns-then-e-at c = (run_on c.ascii.ensures c.threes-e.ensures, λ e. absurd (c.if-e-at.true e))

pub overflow_add-result : goal.overflow_add-result
overflow_add-result c = omega (arith, char_within c.args.s.now c.args.at, c.char_width.ensures)

pub returns : goal.returns
returns c = char_run _ _ _ c.char_width.ensures
