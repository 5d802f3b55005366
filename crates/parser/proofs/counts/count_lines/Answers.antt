use Rattle.parser.proofs.Sizing.{Sizing, sizing_start, counted_done, counted_bound, counted_less, counted_more}
use borrow.Author.Rules.{rules}
use mathlib.Core.Path.{sym, subst}
use native.Mathlib.Omega.{arith}
use Rattle.parser.proofs.counts.count_lines.Goals as goal

pub count_main-all-requires : goal.count_main-all-requires
count_main-all-requires c = c.requires

pub loop-line-init : goal.loop-line-init
loop-line-init c = λ at h e. subst (Sizing c.args.s.now at) (sym e) (sizing_start c.args.s.now at h)

pub returns-then-line-eq0 : goal.returns-then-line-eq0
returns-then-line-eq0 c = let l = c.loop-line in
    counted_done c.args.s.now c.args.c.at l.all c.count_moves-line.result c.skips.result.at c.requires (l.invariant c.args.c.at c.requires c.count_main-all.ensures) c.skips.ensures c.count_moves-line.ensures c.if-line-eq0.true

pub overflow_add-all : goal.overflow_add-all
overflow_add-all c = let l = c.loop-line in
    let b = counted_bound c.args.s.now c.args.c.at l.all c.count_moves-line.result c.skips.result.at c.requires (l.invariant c.args.c.at c.requires c.count_main-all.ensures) c.skips.ensures c.count_moves-line.ensures c.if-line-eq0.false (search rules) in omega (arith, b)

pub overflow_add-all-in-loop-line : goal.overflow_add-all-in-loop-line
overflow_add-all-in-loop-line c = let l = c.loop-line in
    let b = counted_bound c.args.s.now c.args.c.at l.all c.count_moves-line.result c.skips.result.at c.requires (l.invariant c.args.c.at c.requires c.count_main-all.ensures) c.skips.ensures c.count_moves-line.ensures c.if-line-eq0.false (search rules) in omega (arith, b)

pub overflow_add-all-in-loop-line-2 : goal.overflow_add-all-in-loop-line-2
overflow_add-all-in-loop-line-2 c = let l = c.loop-line in
    let b = counted_bound c.args.s.now c.args.c.at l.all c.count_moves-line.result c.skips.result.at c.requires (l.invariant c.args.c.at c.requires c.count_main-all.ensures) c.skips.ensures c.count_moves-line.ensures c.if-line-eq0.false (search rules) in omega (arith, b)

pub overflow_add-all-in-loop-line-3 : goal.overflow_add-all-in-loop-line-3
overflow_add-all-in-loop-line-3 c = let l = c.loop-line in
    let b = counted_bound c.args.s.now c.args.c.at l.all c.count_moves-line.result c.skips.result.at c.requires (l.invariant c.args.c.at c.requires c.count_main-all.ensures) c.skips.ensures c.count_moves-line.ensures c.if-line-eq0.false (search rules) in omega (arith, b)

pub loop-line-smaller : goal.loop-line-smaller
loop-line-smaller c = let l = c.loop-line in
    let b = counted_less c.args.s.now c.args.c.at l.all c.count_moves-line.result c.skips.result.at c.requires (l.invariant c.args.c.at c.requires c.count_main-all.ensures) c.skips.ensures c.count_moves-line.ensures c.if-line-eq0.false c.skipped.result c.skipped.ensures in omega (arith, b.0, b.1)

pub loop-line-preserved : goal.loop-line-preserved
loop-line-preserved c = let l = c.loop-line in
    λ at h e. counted_more c.args.s.now at l.all c.count_moves-line.result c.skips.result.at h (l.invariant at h e) c.skips.ensures c.count_moves-line.ensures c.if-line-eq0.false c.skipped.result c.skipped.ensures
