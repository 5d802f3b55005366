-- The slot and its comments, and the line after them.
-- Assumes nothing.
use Rattle.parser.proofs.Sizing.{main_small, counted_past, main_made}
use Rattle.plays.specs.Counted.{remarks_at}
use mathlib.Core.Path.{ap, ◌∙◌}
use native.Mathlib.Omega.{arith}
use borrow.Author.Rules.{rules}
use Rattle.parser.proofs.counts.count_main.Goals as goal

pub overflow_add-result : goal.overflow_add-result
overflow_add-result c = let s = c.args.s.now in
    let b = main_small s c.args.c.at c.requires (search rules) c.count_moves-line.result c.count_comments-slot.result (c.count_comments-slot.ensures ∙ ap (remarks_at s) c.skipped.ensures) c.count_moves-line.ensures in omega (arith, b)

pub overflow_add-result-2 : goal.overflow_add-result-2
overflow_add-result-2 c = let s = c.args.s.now in
    let b = main_small s c.args.c.at c.requires (search rules) c.count_moves-line.result c.count_comments-slot.result (c.count_comments-slot.ensures ∙ ap (remarks_at s) c.skipped.ensures) c.count_moves-line.ensures in omega (arith, b)

pub overflow_add-result-3 : goal.overflow_add-result-3
overflow_add-result-3 c = let s = c.args.s.now in
    let b = main_small s c.args.c.at c.requires (search rules) c.count_moves-line.result c.count_comments-slot.result (c.count_comments-slot.ensures ∙ ap (remarks_at s) c.skipped.ensures) c.count_moves-line.ensures in omega (arith, b)

pub returns : goal.returns
returns c = let s = c.args.s.now in
    main_made s c.args.c.at c.count_moves-line.result c.count_comments-slot.result c.past.result (c.count_comments-slot.ensures ∙ ap (remarks_at s) c.skipped.ensures) c.count_moves-line.ensures (c.past.ensures ∙ counted_past s c.args.c.at c.count_comments-slot.result.next.at c.count_moves-line.result c.count_moves-line.ensures)
