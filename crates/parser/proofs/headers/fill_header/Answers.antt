-- The line is a pair: its key stands before the colon, its value behind it.
-- Assumes nothing.
-- once the pair is found: the text, the line's place, where its value begins and ends, and what is known of it
use mathlib.Core.Path.{sym, ap, ◌∙◌}
use native.Mathlib.Omega.{arith}
use Rattle.jkf.specs.Model.{Header}
use Rattle.filling.specs.Filling.{put_header}
use Rattle.parser.proofs.Headed.{Paired, paired, no-line, header_is}
use Rattle.parser.proofs.headers.fill_header.Goals as goal
use Rattle.parser.proofs.headers.fill_header.Goals.{In-Some}

abbrev At : Type 0
At = In-Some

line : (c : At) → Paired c.args.s.now c.args.at c.in-Some.pair.from c.in-Some.pair.to
line c = paired c.args.s.now c.args.at c.in-Some.pair.from c.in-Some.pair.to c.in-Some.pair.next (sym c.key_value.ensures ∙ c.in-Some.is)

pub returns-in_default : goal.returns-in_default
returns-in_default c = absurd (no-line c.args.s.now c.args.at c.requires (sym c.key_value.ensures ∙ c.in_default.is))

pub overflow_sub-colon : goal.overflow_sub-colon
overflow_sub-colon c = omega (arith, (line c).colon)

pub slice_bounds-put_header-count : goal.slice_bounds-put_header-count
slice_bounds-put_header-count c = omega (arith, (line (goal.at.slice_bounds-put_header-count c).In-Some).colon)

pub slice_bounds-put_header-start : goal.slice_bounds-put_header-start
slice_bounds-put_header-start c = omega (arith, (line (goal.at.slice_bounds-put_header-start c).In-Some).colon)

pub slice_bounds-put_header-end : goal.slice_bounds-put_header-end
slice_bounds-put_header-end c = omega (arith, (line (goal.at.slice_bounds-put_header-end c).In-Some).colon, (line (goal.at.slice_bounds-put_header-end c).In-Some).onward, (line (goal.at.slice_bounds-put_header-end c).In-Some).within)

pub slice_bounds-put_header-count-2 : goal.slice_bounds-put_header-count-2
slice_bounds-put_header-count-2 c = omega (arith, (line (goal.at.slice_bounds-put_header-count-2 c).In-Some).onward)

pub slice_bounds-put_header-start-2 : goal.slice_bounds-put_header-start-2
slice_bounds-put_header-start-2 c = omega (arith, (line (goal.at.slice_bounds-put_header-start-2 c).In-Some).onward)

pub slice_bounds-put_header-end-2 : goal.slice_bounds-put_header-end-2
slice_bounds-put_header-end-2 c = omega (arith, (line (goal.at.slice_bounds-put_header-end-2 c).In-Some).onward, (line (goal.at.slice_bounds-put_header-end-2 c).In-Some).within)

pub returns : goal.returns
returns c = let a = c.args in let e = header_is c.args.s.now c.args.at c.in-Some.pair.from c.in-Some.pair.to (line (goal.at.returns c).In-Some) in record { value = c.put_header.ensures.value ∙ ap (λ (h : Header). (put_header h a.w a.out.now).walk) e; out_after = c.put_header.ensures.out_after ∙ ap (λ (h : Header). (put_header h a.w a.out.now).buffer) e }
