-- The answers of the steps, handed on as the definition hands them on; a kind is at most 14.
-- Assumes nothing.
use native.Mathlib.Omega.{arith}
use mathlib.Core.Path.{sym, ◌∙◌}
use Rattle.spell.proofs.Answers.{as_is}
use Rattle.kakinoki.proofs.Reach.{kind_known}
use Rattle.kakinoki.specs.Boards.{white_at}
use Rattle.kakinoki.proofs.boards.white_piece.Goals as goal

pub returns-in_err-past : goal.returns-in_err-past
unfolding white_at
returns-in_err-past c = rw (← c.tag.ensures, c.in_err-past.was) c.from_residual.ensures

pub returns-in_err-kind : goal.returns-in_err-kind
unfolding white_at
returns-in_err-kind c = rw (← c.tag.ensures, c.in_ok-past.was, ← c.kind.ensures, c.in_err-kind.was) c.from_residual-in_err-kind.ensures

pub overflow_add-result : goal.overflow_add-result
overflow_add-result c = omega (arith, (as_is (kind_known c.args.s.now _) (sym c.kind.ensures ∙ c.in_ok-kind.was)).most)

pub returns : goal.returns
unfolding white_at
returns c = rw (← c.tag.ensures, c.in_ok-past.was, ← c.kind.ensures, c.in_ok-kind.was)
