-- The head and the line's entries, at the fields that were read, are the two pieces of its text; a sound block's lines lie among its entries.
-- Assumes nothing.
use native.Mathlib.Omega.{arith}
use mathlib.Core.Path.{refl}
use Rattle.block.specs.Decode.{run, first_entry, entry_count}
use Rattle.lent.proofs.Writes.{as_text, then, sum_fits, within}
use Rattle.block.proofs.Within.{entries-within, lines-small}
use Rattle.converter.specs.Show.{variation_head}
use Rattle.converter.specs.Entries.{entries_text}
use Rattle.converter.specs.inner.Lines.{noted_said}
use Rattle.converter.proofs.Playing.{variation-text}
use Rattle.lent.proofs.Room.{room_after, room_as, room-front}
use Rattle.block.proofs.Sounding.{keeps}
use Rattle.converter.proofs.kif.put_variation.Goals as goal

pub put_variation_head-n-requires : goal.put_variation_head-n-requires
put_variation_head-n-requires c =
    let a = c.args in
    let b = a.b.bytes.now in
    let start = c.start_of-start.result in
    let h = room_as (variation-text a.mode b a.k c.start_of-start.ensures.0 refl refl) c.requires.1 in
    room-front (variation_head start) (entries_text start (run (noted_said a.mode b) (first_entry b a.k) (entry_count b a.k))) h

pub slice_bounds-put_entries-count : goal.slice_bounds-put_entries-count
slice_bounds-put_entries-count c = within c.put_variation_head-n.ensures

pub slice_bounds-put_entries-start : goal.slice_bounds-put_entries-start
slice_bounds-put_entries-start c = slice_bounds-put_entries-count c

pub put_entries-requires : goal.put_entries-requires
put_entries-requires c =
    let a = c.args in
    let b = a.b.bytes.now in
    let h = room_as (variation-text a.mode b a.k c.start_of-start.ensures.0 c.first_entry.ensures.0 c.entry_count.ensures.0) c.requires.1 in (
      omega (arith, entries-within b (keeps a.b) a.k c.requires.0),
      c.start_of-start.ensures.1,
      room_after (entries_text c.start_of-start.result (run (noted_said a.mode b) c.first_entry.result c.entry_count.result)) c.put_variation_head-n.ensures h,
    )

pub returns : goal.returns
returns c =
    let a = c.args in
    as_text (variation-text a.mode a.b.bytes.now a.k c.start_of-start.ensures.0 c.first_entry.ensures.0 c.entry_count.ensures.0)
    (then c.put_variation_head-n.ensures c.put_entries.ensures)

pub overflow_add-result : goal.overflow_add-result
overflow_add-result c = sum_fits (returns c) c.well_formed.0.0

pub overflow_cast-i : goal.overflow_cast-i
overflow_cast-i c = omega (arith, lines-small c.args.b.bytes.now (keeps c.args.b))
