-- The tests are the definition's, in its order, and so are the answers behind them.
-- Assumes nothing.
use borrow.Author.Tests.{eq-eqb, le-leb, lt-leb, ne_eqb}
use Rattle.moves.specs.Failing.{skip_line_fail}
use Rattle.moves.proofs.reasons.skip_line_fails.Goals as goal

pub returns-then-s-c : goal.returns-then-s-c
unfolding skip_line_fail
returns-then-s-c c = rw (le-leb _ _ c.if-s-c.true)

pub returns-then-peek-eq42 : goal.returns-then-peek-eq42
unfolding skip_line_fail
returns-then-peek-eq42 c = rw (lt-leb _ _ c.if-s-c.false, ← c.peek.ensures, eq-eqb _ _ c.if-peek-eq42.true)

pub returns-then-begins_no_skip : goal.returns-then-begins_no_skip
unfolding skip_line_fail
returns-then-begins_no_skip c = rw (lt-leb _ _ c.if-s-c.false, ← c.peek.ensures, ne_eqb _ _ c.if-peek-eq42.false, ← c.begins_no_skip.ensures, c.if-begins_no_skip.true)

pub returns-in_err-past : goal.returns-in_err-past
unfolding skip_line_fail
returns-in_err-past c = rw (lt-leb _ _ c.if-s-c.false, ← c.peek.ensures, ne_eqb _ _ c.if-peek-eq42.false, ← c.begins_no_skip.ensures, c.if-begins_no_skip.false, ← c.character.ensures, c.in_err-past.was) c.from_residual.ensures

pub returns : goal.returns
unfolding skip_line_fail
returns c = rw (lt-leb _ _ c.if-s-c.false, ← c.peek.ensures, ne_eqb _ _ c.if-peek-eq42.false, ← c.begins_no_skip.ensures, c.if-begins_no_skip.false, ← c.character.ensures, c.in_ok-past.was) c.line_end_fails.ensures
