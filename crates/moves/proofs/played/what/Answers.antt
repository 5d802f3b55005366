-- What has a target is a move, and what has none can only be a special (`what-move`, `what-ending`).
-- Assumes nothing.
use mathlib.Core.Path.{sym, ◌∙◌}
use Rattle.moves.proofs.Shortcuts.{what-move, what-ending}
use Rattle.moves.proofs.played.what.Goals as goal

pub returns-in_default : goal.returns-in_default
returns-in_default c = c.ending.ensures ∙ sym (what-ending _ _ (sym c.move_to.ensures ∙ c.in_default.is))

pub returns : goal.returns
returns c = c.piece.ensures ∙ sym (what-move _ _ _ _ (sym c.move_to.ensures ∙ c.in-Some.is))
