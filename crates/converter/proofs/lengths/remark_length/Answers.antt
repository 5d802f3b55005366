-- A comment has an LF after it, and a star before it unless it begins with &.
-- Assumes nothing.
use native.Mathlib.Omega.{arith}
use mathlib.Core.Path.{sym, ◌∙◌}
use Rattle.converter.proofs.Lengthy.{remark_bare, remark_starred}
use Rattle.converter.proofs.lengths.remark_length.Goals as goal

pub returns-then-peek-eq38 : goal.returns-then-peek-eq38
returns-then-peek-eq38 c = omega (arith, remark_bare c.args.c.now (sym c.peek.ensures ∙ c.if-peek-eq38.true))

pub returns : goal.returns
returns c = omega (arith, remark_starred c.args.c.now (λ e. c.if-peek-eq38.false (c.peek.ensures ∙ e)))
