-- The places are those of all header lines, which are sorted by key into as much of the buffer; so what is counted was prepared.
-- Assumes nothing.
use Rattle.parser.proofs.Preparing.{taken-count, sorted_room, room-count, sorted_within, sorted_count, prepared, sorted_so}
use Rattle.parser.proofs.surveys.survey_start.Goals as goal

pub slice_bounds-sort_keys-end : goal.slice_bounds-sort_keys-end
slice_bounds-sort_keys-end c = taken-count c.args.s.now c.args.start c.args.places.now c.requires.s_len_bound

pub slice_bounds-sort_keys-end-2 : goal.slice_bounds-sort_keys-end-2
slice_bounds-sort_keys-end-2 c = sorted_room c.args.s.now c.args.start c.args.places.now c.requires.s_len_bound c.args.sorted.now c.requires.in_bounds

pub slice_bounds-sort_keys-end-3 : goal.slice_bounds-sort_keys-end-3
slice_bounds-sort_keys-end-3 c = room-count c.args.s.now c.args.start c.args.places.now c.requires.s_len_bound c.args.sorted.now c.requires.in_bounds

pub slice_bounds-sized-end : goal.slice_bounds-sized-end
slice_bounds-sized-end c =
    sorted_within c.args.s.now c.args.start c.args.places.now c.requires.s_len_bound c.args.sorted.now c.requires.in_bounds _ _ _ (c.sort_keys-kept.ensures.value, c.sort_keys-kept.ensures.out_after)

pub slice_bounds-sized-end-2 : goal.slice_bounds-sized-end-2
slice_bounds-sized-end-2 c =
    sorted_count c.args.s.now c.args.start c.args.places.now c.requires.s_len_bound c.args.sorted.now c.requires.in_bounds _ _ _ (c.sort_keys-kept.ensures.value, c.sort_keys-kept.ensures.out_after)

pub sized-requires : goal.sized-requires
sized-requires c =
    prepared c.args.s.now c.args.start c.args.places.now c.requires.s_len_bound c.args.sorted.now c.requires.in_bounds _ _ _ (c.sort_keys-kept.ensures.value, c.sort_keys-kept.ensures.out_after)

pub returns : goal.returns
returns c =
    let (p, f) = c.sized.ensures in
    (p, sorted_so c.args.s.now c.sized.result _ _ (sorted_within c.args.s.now c.args.start c.args.places.now c.requires.s_len_bound c.args.sorted.now c.requires.in_bounds _ _ _ (c.sort_keys-kept.ensures.value, c.sort_keys-kept.ensures.out_after)) f)
