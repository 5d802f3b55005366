-- A place of 1 to 9 is three bytes, as a file and as a rank, and any other is not written.
-- Assumes nothing.
use mathlib.Core.Path.{sym, ◌∙◌}
use Rattle.converter.proofs.Lengthy.{place_three, place_none}
use Rattle.converter.proofs.lengths.place_length.Goals as goal

pub returns-then-within : goal.returns-then-within
returns-then-within c = place_three c.args.x (sym c.within.ensures ∙ c.if-within.true)

pub returns-else-within : goal.returns-else-within
returns-else-within c = place_none c.args.x (sym c.within.ensures ∙ c.if-within.false)
