-- 同 and a wide space, or a file and a rank: each arm is that of `target_text`.
-- Assumes nothing.
use mathlib.Core.Path.{sym, ap}
use Rattle.spell.specs.Tables.{numerals, files}
use Rattle.spell.specs.Spell.{spelled}
use Rattle.lent.proofs.Writes.{as_text, sum_fits, within}
use Rattle.converter.specs.Entries.{target_text}
use Rattle.converter.proofs.Worded.{room_of}
use Rattle.lent.proofs.Room.{two_of, bytes_of}
use Rattle.converter.proofs.kif.put_target.Goals as goal

pub slice_bounds-put_numeral-count : goal.slice_bounds-put_numeral-count
slice_bounds-put_numeral-count c = within c.put_file-n.ensures

pub slice_bounds-put_numeral-start : goal.slice_bounds-put_numeral-start
slice_bounds-put_numeral-start c = slice_bounds-put_numeral-count c

pub returns-in-Same : goal.returns-in-Same
unfolding target_text
returns-in-Same c =
    bytes_of (ap target_text (sym c.in-Same.is)) c.requires c.put_bytes.ensures

pub returns-in-Square : goal.returns-in-Square
unfolding target_text
returns-in-Square c =
    as_text (ap target_text (sym c.in-Square.is))
    (two_of (spelled files c.in-Square.x) (spelled numerals c.in-Square.y) (room_of target_text c.in-Square.is c.requires) c.put_file-n.ensures c.put_numeral.ensures)

pub overflow_add-result : goal.overflow_add-result
overflow_add-result c = sum_fits (returns-in-Square c) c.well_formed.0.0
