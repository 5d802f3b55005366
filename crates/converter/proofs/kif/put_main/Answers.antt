-- A sound block's line 0 begins with entry 0, so its slot's comments are those of entry 0, and its other entries are those from 1 on.
-- Assumes nothing.
use Prim.Native.Nat.{◌-◌}
use native.Mathlib.Omega.{arith}
use mathlib.Core.Path.{refl}
use Rattle.block.specs.Decode.{run, entry_count, comment_of}
use Rattle.lent.proofs.Writes.{as_text, then, sum_fits, within}
use Rattle.block.proofs.Within.{entries-within, some-line, some-entry, comments-within, comments-small}
use Rattle.converter.specs.Entries.{remarks_text, entries_text}
use Rattle.converter.specs.inner.Lines.{noted_said}
use Rattle.converter.proofs.Playing.{main-text}
use Rattle.lent.proofs.Room.{room_after, room_as, room-front}
use Rattle.block.proofs.Sounding.{keeps}
use Rattle.converter.proofs.kif.put_main.Goals as goal

pub put_remarks-n-requires : goal.put_remarks-n-requires
put_remarks-n-requires c =
    let b = c.args.b.bytes.now in
    let m = c.args.mode in
    let s = keeps c.args.b in
    let h = room_as (main-text m b s c.first_comment.ensures.0 c.comment_count.ensures.0 refl) c.requires in
    let l = some-line b s in (
      omega (arith, comments-within b s 0 (omega (arith, entries-within b s 0 l, some-entry b s 0 l)), comments-small b s),
      room-front (remarks_text (run (comment_of b) c.first_comment.result c.comment_count.result)) (entries_text 1 (run (noted_said m b) 1 (entry_count b 0 - 1))) h,
    )

pub slice_bounds-put_entries-count : goal.slice_bounds-put_entries-count
slice_bounds-put_entries-count c = within c.put_remarks-n.ensures

pub slice_bounds-put_entries-start : goal.slice_bounds-put_entries-start
slice_bounds-put_entries-start c = slice_bounds-put_entries-count c

pub overflow_sub-entry_count : goal.overflow_sub-entry_count
overflow_sub-entry_count c =
    let b = c.args.b.bytes.now in
    let s = keeps c.args.b in
    omega (arith, some-entry b s 0 (some-line b s))

pub put_entries-requires : goal.put_entries-requires
put_entries-requires c =
    let b = c.args.b.bytes.now in
    let m = c.args.mode in
    let s = keeps c.args.b in
    let h = room_as (main-text m b s c.first_comment.ensures.0 c.comment_count.ensures.0 c.entry_count.ensures.0) c.requires in
    let l = some-line b s in (
      omega (arith, entries-within b s 0 l, some-entry b s 0 l),
      omega arith,
      room_after (entries_text 1 (run (noted_said m b) 1 (c.entry_count.result - 1))) c.put_remarks-n.ensures h,
    )

pub returns : goal.returns
returns c =
    as_text (main-text c.args.mode c.args.b.bytes.now (keeps c.args.b) c.first_comment.ensures.0 c.comment_count.ensures.0 c.entry_count.ensures.0) (then c.put_remarks-n.ensures c.put_entries.ensures)

pub overflow_add-result : goal.overflow_add-result
overflow_add-result c = sum_fits (returns c) c.well_formed.0.0
