-- Nothing, or the padding with its bracket and two clocks one after another, each with its room.
-- Assumes nothing.
use mathlib.Core.Path.{sym, ap}
use Rattle.lent.proofs.Writes.{as_text, nothing, then, sum_fits, within}
use mathlib.Core.List.{[], ◌∷◌, ◌++◌}
use Rattle.converter.specs.Entries.{clock_text, time_padding, time_text}
use Rattle.converter.proofs.Worded.{three, room_of}
use Rattle.lent.proofs.Room.{room_after}
use Rattle.converter.proofs.kif.put_time.Goals as goal

pub put_padding-n-requires : goal.put_padding-n-requires
unfolding time_text
put_padding-n-requires c =
    let w = c.args.width in
    let h = room_of (time_text w) c.in-Timed.is c.requires.1 in
    (three (time_padding w ++ (40 ∷ [])) (clock_text 32 47 c.in-Timed.now) (clock_text 48 41 c.in-Timed.total) h).0

pub slice_bounds-put_clock-count : goal.slice_bounds-put_clock-count
slice_bounds-put_clock-count c = within c.put_padding-n.ensures

pub slice_bounds-put_clock-start : goal.slice_bounds-put_clock-start
slice_bounds-put_clock-start c = slice_bounds-put_clock-count c

pub put_clock-requires : goal.put_clock-requires
unfolding time_text
put_clock-requires c =
    let w = c.args.width in
    let h = room_of (time_text w) c.in-Timed.is c.requires.1 in
    room_after (clock_text 32 47 c.in-Timed.now) c.put_padding-n.ensures (three (time_padding w ++ (40 ∷ [])) (clock_text 32 47 c.in-Timed.now) (clock_text 48 41 c.in-Timed.total) h).1

pub overflow_add-m : goal.overflow_add-m
overflow_add-m c = sum_fits (then c.put_padding-n.ensures c.put_clock.ensures) c.well_formed.0.0

pub slice_bounds-put_clock-count-in-Timed : goal.slice_bounds-put_clock-count-in-Timed
slice_bounds-put_clock-count-in-Timed c = within (then c.put_padding-n.ensures c.put_clock.ensures)

pub put_clock-requires-in-Timed : goal.put_clock-requires-in-Timed
unfolding time_text
put_clock-requires-in-Timed c =
    let w = c.args.width in
    let h = room_of (time_text w) c.in-Timed.is c.requires.1 in
    room_after (clock_text 48 41 c.in-Timed.total) (then c.put_padding-n.ensures c.put_clock.ensures) h

pub returns-in-Untimed : goal.returns-in-Untimed
unfolding time_text
returns-in-Untimed c =
    as_text (ap (time_text c.args.width) (sym c.in-Untimed.is)) (nothing _)

pub returns-in-Timed : goal.returns-in-Timed
unfolding time_text
returns-in-Timed c =
    as_text (ap (time_text c.args.width) (sym c.in-Timed.is)) (then (then c.put_padding-n.ensures c.put_clock.ensures) c.put_clock-in-Timed.ensures)

pub overflow_add-result : goal.overflow_add-result
overflow_add-result c = sum_fits (returns-in-Timed c) c.well_formed.0.0
