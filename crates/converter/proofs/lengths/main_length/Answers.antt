-- Line 0 is the comments of its slot, the first entry, and the entries after it.
-- Assumes nothing.
use Prim.Native.Nat.{◌-◌}
use native.Mathlib.Omega.{arith}
use mathlib.Core.Path.{ap, ap₂}
use lib.ListN.{length}
use Rattle.block.specs.Decode.{run, comment_of}
use Rattle.block.proofs.Within.{some-line, some-entry, first-none, entries-within, moves-small, comments-within, comments-small}
use Rattle.converter.specs.Entries.{remarks_text, entries_text}
use Rattle.converter.specs.inner.Lines.{noted_said}
use Rattle.converter.proofs.Counted.{main_parts}
use Rattle.block.proofs.Sounding.{keeps}
use Rattle.converter.proofs.lengths.main_length.Goals as goal

pub remarks_length-requires : goal.remarks_length-requires
remarks_length-requires c =
    let b = c.args.b.bytes.now in
    let s = keeps c.args.b in
    let l = some-line b s in
    omega (arith, comments-within b s 0 (omega (arith, entries-within b s 0 l, some-entry b s 0 l)), comments-small b s)

pub overflow_sub-entry_count : goal.overflow_sub-entry_count
overflow_sub-entry_count c =
    let b = c.args.b.bytes.now in
    let s = keeps c.args.b in
    omega (arith, some-entry b s 0 (some-line b s))

pub entries_length-requires : goal.entries_length-requires
entries_length-requires c =
    let b = c.args.b.bytes.now in
    let s = keeps c.args.b in
    let l = some-line b s in
    (omega (arith, entries-within b s 0 l, first-none b s, some-entry b s 0 l), omega arith)

pub returns : goal.returns
returns c =
    let b = c.args.b.bytes.now in
    let s = keeps c.args.b in
    let m = c.args.mode in
    let r = ap₂ (λ i n. length (remarks_text (run (comment_of b) i n))) c.first_comment.ensures.0 c.comment_count.ensures.0 in
    let e = ap (λ n. length (entries_text 1 (run (noted_said m b) 1 (n - 1)))) c.entry_count.ensures.0 in
    omega (arith, main_parts m b s, entries-within b s 0 (some-line b s), moves-small b s)
