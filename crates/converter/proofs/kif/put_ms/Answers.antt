-- Two figures one after another, each with its room.
-- Assumes nothing.
use Rattle.lent.proofs.Writes.{then, sum_fits, within}
use Rattle.lent.proofs.Room.{room_after}
use Rattle.converter.specs.Entries.{figure_text, clock_text}
use Rattle.converter.proofs.Worded.{ms_room}
use Rattle.converter.proofs.kif.put_ms.Goals as goal

pub put_figure-n-requires : goal.put_figure-n-requires
put_figure-n-requires c =
    let a = c.args in
    ms_room a.fill a.after a.m a.s c.requires

pub slice_bounds-put_figure-count : goal.slice_bounds-put_figure-count
slice_bounds-put_figure-count c = within c.put_figure-n.ensures

pub slice_bounds-put_figure-start : goal.slice_bounds-put_figure-start
slice_bounds-put_figure-start c = slice_bounds-put_figure-count c

pub put_figure-requires : goal.put_figure-requires
unfolding clock_text
put_figure-requires c =
    let a = c.args in
    room_after (figure_text 48 a.after a.s) c.put_figure-n.ensures c.requires

pub returns : goal.returns
unfolding clock_text
returns c = then c.put_figure-n.ensures c.put_figure.ensures

pub overflow_add-result : goal.overflow_add-result
overflow_add-result c = sum_fits (returns c) c.well_formed.0.0
