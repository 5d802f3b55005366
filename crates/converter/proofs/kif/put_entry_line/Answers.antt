-- Four pieces one after another, each with its room.
-- Assumes nothing.
use mathlib.Core.Path.{ap₂}
use mathlib.Core.List.{[], ◌∷◌}
use Rattle.jkf.specs.Entries.{time_of}
use Rattle.converter.specs.Entries.{time_text, play_text, width_of, entry_line}
use Rattle.converter.proofs.Worded.{line-room}
use Rattle.lent.proofs.Writes.{as_text, then, sum_fits, within}
use Rattle.lent.proofs.Room.{room_after, then_stored}
use Rattle.converter.proofs.kif.put_entry_line.Goals as goal

pub put_ply-a-requires : goal.put_ply-a-requires
put_ply-a-requires c = (line-room c.args.ply c.args.e c.requires).0

pub slice_bounds-put_play-count : goal.slice_bounds-put_play-count
slice_bounds-put_play-count c = within c.put_ply-a.ensures

pub slice_bounds-put_play-start : goal.slice_bounds-put_play-start
slice_bounds-put_play-start c = slice_bounds-put_play-count c

pub put_play-requires : goal.put_play-requires
put_play-requires c =
    let e = c.args.e in
    let r = line-room c.args.ply e c.requires in
    room_after (play_text e) c.put_ply-a.ensures r.1

pub overflow_add-b : goal.overflow_add-b
overflow_add-b c = sum_fits (then c.put_ply-a.ensures c.put_play.ensures) c.well_formed.0.0

pub slice_bounds-put_time-count : goal.slice_bounds-put_time-count
slice_bounds-put_time-count c = within (then c.put_ply-a.ensures c.put_play.ensures)

pub slice_bounds-put_time-start : goal.slice_bounds-put_time-start
slice_bounds-put_time-start c = slice_bounds-put_time-count c

pub put_time-requires : goal.put_time-requires
put_time-requires c =
    let e = c.args.e in
    let r = line-room c.args.ply e c.requires in
    let h = room_after (time_text (width_of e) (time_of e)) (then c.put_ply-a.ensures c.put_play.ensures) r.2 in
    (c.width_of.ensures.1, rw (c.width_of.ensures.0, c.time_of.ensures) h)

pub overflow_add-c : goal.overflow_add-c
overflow_add-c c = sum_fits (then (then c.put_ply-a.ensures c.put_play.ensures) c.put_time.ensures) c.well_formed.0.0

pub returns : goal.returns
unfolding entry_line
returns c =
    let time = as_text (ap₂ time_text c.width_of.ensures.0 c.time_of.ensures) c.put_time.ensures in
    then_stored (10 ∷ []) (then (then c.put_ply-a.ensures c.put_play.ensures) time) c.requires c.put_at.ensures
