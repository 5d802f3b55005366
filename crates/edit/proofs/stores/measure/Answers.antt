-- The numbers that are found are those of the definition, and small.
-- Assumes nothing.
use native.Mathlib.Omega.{arith}
use Rattle.filling.proofs.Putting.{small_enough}
use Rattle.edit.proofs.Measured.{measured}
use Rattle.block.proofs.Within.{lines-small}
use Rattle.block.proofs.Sounding.{keeps}
use Rattle.edit.proofs.stores.measure.Goals as goal

pub overflow_add-result-5 : goal.overflow_add-result-5
overflow_add-result-5 c = omega (arith, c.count_entries-back.ensures.count_bound, c.count_entries-front.ensures.count_bound, c.moves_in.ensures, c.entries_before-after.ensures.1, c.entries_before-before.ensures.1, c.requires.lines_bound)

pub overflow_add-result-6 : goal.overflow_add-result-6
overflow_add-result-6 c = omega (arith, c.count_entries-back.ensures.count_bound, c.count_entries-front.ensures.count_bound, c.moves_in.ensures, c.entries_before-after.ensures.1, c.entries_before-before.ensures.1, c.requires.lines_bound)

pub overflow_add-result-7 : goal.overflow_add-result-7
overflow_add-result-7 c = omega (arith, c.count_entries-back.ensures.count_bound, c.count_entries-front.ensures.count_bound, c.moves_in.ensures, c.entries_before-after.ensures.1, c.entries_before-before.ensures.1, c.requires.lines_bound, c.header_bytes.ensures.1)

pub overflow_add-result-8 : goal.overflow_add-result-8
overflow_add-result-8 c = omega (arith, c.count_entries-back.ensures.count_bound, c.count_entries-front.ensures.count_bound, c.moves_in.ensures, c.entries_before-after.ensures.1, c.entries_before-before.ensures.1, c.requires.lines_bound, c.header_bytes.ensures.1)

pub overflow_add-result-9 : goal.overflow_add-result-9
overflow_add-result-9 c = omega (arith, c.count_entries-back.ensures.count_bound, c.count_entries-front.ensures.count_bound, c.moves_in.ensures, c.entries_before-after.ensures.1, c.entries_before-before.ensures.1, c.requires.lines_bound, c.header_bytes.ensures.1)

pub returns : goal.returns
returns c = let a = c.args in (
  measured a.b.bytes.now a.p a.q a.added c.headers_in.ensures.0 c.lines_in.ensures.0 c.moves_in.ensures.0 c.entries_before-before.ensures.0 c.entries_before-after.ensures.0 c.header_bytes.ensures.0 c.count_entries-front.ensures.count_value.0 c.count_entries-front.ensures.count_value.1 c.count_entries-back.ensures.count_value.0 c.count_entries-back.ensures.count_value.1,
  small_enough _ (record {
    headers = omega (arith, c.headers_in.ensures);
    lines = omega (arith, c.lines_in.ensures, c.requires.range, c.requires.lines_bound);
    entries = omega (arith, c.count_entries-back.ensures.count_bound, c.count_entries-front.ensures.count_bound, c.moves_in.ensures, c.entries_before-after.ensures.1, c.entries_before-before.ensures.1, c.requires.lines_bound, c.header_bytes.ensures.1);
    comments = omega (arith, c.count_entries-back.ensures.count_bound, c.count_entries-front.ensures.count_bound, c.moves_in.ensures, c.entries_before-after.ensures.1, c.entries_before-before.ensures.1, c.requires.lines_bound, c.header_bytes.ensures.1);
    bytes = omega (arith, c.count_entries-back.ensures.count_bound, c.count_entries-front.ensures.count_bound, c.moves_in.ensures, c.entries_before-after.ensures.1, c.entries_before-before.ensures.1, c.requires.lines_bound, c.header_bytes.ensures.1);
  }),
)

pub overflow_add-result : goal.overflow_add-result
overflow_add-result c = omega (arith, lines-small c.args.b.bytes.now (keeps c.args.b))
