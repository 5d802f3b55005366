-- The answers of the steps, handed on as the definition hands them on.
-- Assumes nothing.
use mathlib.Core.Path.{sym}
use Rattle.moves.specs.Moves.{kind_to_origin_at}
use Rattle.moves.proofs.Answers.{source_else}
use Rattle.moves.proofs.played.piece.Goals as goal

pub returns-in_err-kind : goal.returns-in_err-kind
unfolding kind_to_origin_at
returns-in_err-kind c = rw (← c.kind.ensures, c.in_err-kind.was) c.from_residual.ensures

pub returns-in_default : goal.returns-in_default
unfolding kind_to_origin_at
returns-in_default c = rw (← c.kind.ensures, c.in_ok-kind.was, ← c.promote-mark.ensures, ← c.move_from.ensures) (sym (source_else _ _ c.in_default.is))

pub returns : goal.returns
unfolding kind_to_origin_at
returns c = rw (← c.kind.ensures, c.in_ok-kind.was, ← c.promote-mark.ensures, ← c.move_from.ensures, c.in-Ok.is)
