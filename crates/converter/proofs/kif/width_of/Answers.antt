-- Each arm is that of `width_of`, and an ending is the one of its own number.
-- Assumes nothing.
use native.Mathlib.Omega.{arith}
use mathlib.Core.Path.{sym, ap, ◌∙◌}
use Rattle.jkf.specs.Entries.{special_of}
use Rattle.block.proofs.EntriesBack.{special_back}
use Rattle.converter.specs.Entries.{special_width, width_of}
use Rattle.converter.proofs.kif.width_of.Goals as goal

pub returns-in-Slot : goal.returns-in-Slot
unfolding width_of
returns-in-Slot c = (ap width_of (sym c.in-Slot.is), omega arith)

pub returns-in-Moved : goal.returns-in-Moved
unfolding width_of
returns-in-Moved c = (c.move_width.ensures.0 ∙ ap width_of (sym c.in-Moved.is), omega arith)

pub returns-in-End : goal.returns-in-End
unfolding width_of
returns-in-End c =
    (c.special_width.ensures.0 ∙ ap (λ n. special_width (special_of n)) c.from.ensures ∙ ap special_width (special_back c.in-End.s) ∙ ap width_of (sym c.in-End.is), omega arith)
