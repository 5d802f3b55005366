-- The leading lines, then the others: these two are the header, so there is room for both.
-- Assumes nothing.
use Rattle.lent.proofs.Writes.{then, sum_fits, within}
use Rattle.converter.specs.Headers.{lines_of, headers_text}
use Rattle.converter.specs.inner.Places.{stored_headers}
use Rattle.converter.proofs.Heading.{leads}
use Rattle.lent.proofs.Room.{room-front, room_after}
use Rattle.converter.proofs.starts.put_headers.Goals as goal

pub put_leading-n-requires : goal.put_leading-n-requires
unfolding headers_text
put_leading-n-requires c =
    let hs = stored_headers c.args.b.bytes.now in
    (c.leading_places-places.ensures, room-front (leads c.args.b.bytes.now 12) (lines_of 0 hs) c.requires)

pub slice_bounds-put_others-count : goal.slice_bounds-put_others-count
slice_bounds-put_others-count c = within c.put_leading-n.ensures

pub slice_bounds-put_others-start : goal.slice_bounds-put_others-start
slice_bounds-put_others-start c = slice_bounds-put_others-count c

pub put_others-requires : goal.put_others-requires
unfolding headers_text
put_others-requires c =
    let b = c.args.b.bytes.now in
    room_after (lines_of 0 (stored_headers b)) c.put_leading-n.ensures c.requires

pub returns : goal.returns
unfolding headers_text
returns c =
    then c.put_leading-n.ensures c.put_others.ensures

pub overflow_add-result : goal.overflow_add-result
overflow_add-result c = sum_fits (returns c) c.well_formed.0.0
