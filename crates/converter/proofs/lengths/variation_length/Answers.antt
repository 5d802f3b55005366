-- A variation is 14 bytes, its start, which has at most five digits, and its entries, which lie among those of the block.
-- Assumes nothing.
use native.Mathlib.Omega.{arith}
use mathlib.Core.Path.{ap, ap₂, ◌∙◌}
use lib.ListN.{length}
use Rattle.lent.specs.Numbers.{decimal}
use Rattle.block.specs.Decode.{run, start_of}
use Rattle.block.proofs.Within.{entries-within, lines-small}
use Rattle.converter.specs.Entries.{entries_text}
use Rattle.lent.proofs.Digits.{digits_five}
use Rattle.converter.specs.inner.Lines.{noted_said}
use Rattle.converter.proofs.Counted.{variation_parts}
use Rattle.block.proofs.Sounding.{keeps}
use Rattle.converter.proofs.lengths.variation_length.Goals as goal

pub overflow_add-result : goal.overflow_add-result
overflow_add-result c = omega (arith, digits_five c.start_of-start.result (omega arith))

pub entries_length-requires : goal.entries_length-requires
entries_length-requires c =
    let b = c.args.b.bytes.now in
    let s = keeps c.args.b in
    (omega (arith, entries-within b s c.args.k c.requires), omega arith)

pub overflow_add-result-2 : goal.overflow_add-result-2
overflow_add-result-2 c = omega (arith, digits_five c.start_of-start.result (omega arith))

pub returns : goal.returns
returns c =
    let b = c.args.b.bytes.now in
    let k = c.args.k in
    let m = c.args.mode in
    let d = ap (λ n. length (decimal n)) c.start_of-start.ensures.0 in
    let e =
    ap (λ p. length (entries_text p (run (noted_said m b) c.first_entry.result c.entry_count.result))) c.start_of-start.ensures.0
    ∙ ap₂ (λ f n. length (entries_text (start_of b k) (run (noted_said m b) f n))) c.first_entry.ensures.0 c.entry_count.ensures.0 in
    omega (arith, variation_parts m b k, digits_five c.start_of-start.result (omega arith))

pub overflow_cast-i : goal.overflow_cast-i
overflow_cast-i c = omega (arith, lines-small c.args.b.bytes.now (keeps c.args.b))
