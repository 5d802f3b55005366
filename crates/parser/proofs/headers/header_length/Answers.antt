-- A header line is its key, a colon of three bytes and its value: all but the colon, up to the value's end, is what is counted.
-- Assumes nothing.
-- once the pair is found: the text, the line's place, where its value begins and ends, and what is known of it
use Rattle.parser.proofs.Headed.{Paired, paired, entry-long, no-line}
use mathlib.Core.Path.{sym, ◌∙◌}
use native.Mathlib.Omega.{arith}
use Rattle.parser.proofs.headers.header_length.Goals as goal
use Rattle.parser.proofs.headers.header_length.Goals.{After-struct_known-1}

abbrev At : Type 0
At = After-struct_known-1

line : (c : At) → Paired c.args.s.now c.args.at c.in-Some.pair.from c.in-Some.pair.to
line c = paired c.args.s.now c.args.at c.in-Some.pair.from c.in-Some.pair.to c.in-Some.pair.next (sym c.key_value.ensures ∙ c.in-Some.is)

pub returns-in_default : goal.returns-in_default
returns-in_default c =
    absurd (no-line c.args.s.now c.args.at c.requires (sym c.key_value.ensures ∙ c.in_default.is))

pub overflow_sub-result : goal.overflow_sub-result
overflow_sub-result c = omega (arith, (line c).colon, (line c).onward)

pub overflow_sub-result-2 : goal.overflow_sub-result-2
overflow_sub-result-2 c = omega (arith, (line c).colon, (line c).onward)

pub returns : goal.returns
returns c = sym (entry-long c.args.s.now c.args.at c.in-Some.pair.from c.in-Some.pair.to (line c))
