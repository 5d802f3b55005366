-- Each arm is that of `play_text`; an ending is spelled by its number.
-- Assumes nothing.
use Rattle.lent.proofs.Room.{bytes_of}
use mathlib.Core.Path.{sym, ap, ◌∙◌}
use Rattle.spell.specs.Tables.{written_specials}
use Rattle.spell.specs.Spell.{spelled}
use Rattle.lent.proofs.Writes.{as_text, nothing}
use Rattle.converter.specs.Entries.{special_text, play_text}
use Rattle.converter.proofs.Worded.{room_of}
use Rattle.converter.proofs.kif.put_play.Goals as goal

pub put_move-requires : goal.put_move-requires
unfolding play_text
put_move-requires c = room_of play_text c.in-Moved.is c.requires

pub returns-in-Slot : goal.returns-in-Slot
unfolding play_text
returns-in-Slot c = as_text (ap play_text (sym c.in-Slot.is)) (nothing _)

pub returns-in-Moved : goal.returns-in-Moved
unfolding play_text
returns-in-Moved c =
    as_text (ap play_text (sym c.in-Moved.is)) c.put_move.ensures

pub returns-in-End : goal.returns-in-End
unfolding play_text special_text
returns-in-End c =
    bytes_of (ap (spelled written_specials) c.from.ensures ∙ ap play_text (sym c.in-End.is)) c.requires c.put_special.ensures
