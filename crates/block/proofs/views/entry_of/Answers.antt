-- The entry is what the bytes from its row on say.
-- Assumes nothing.
use mathlib.Core.Path.{◌∙◌, ap}
use Rattle.block.specs.EntryBytes.{entry_in}
use Rattle.block.proofs.views.entry_of.Goals as goal

pub returns : goal.returns
returns c = c.entry_in.ensures ∙ ap entry_in c.row_of.ensures
