use Rattle.plays.proofs.Counting.{remarking_start, remarking_more, remarking_bound, remarking_done}
use Rattle.moves.proofs.Goings.{remark_goes}
use Rattle.moves.proofs.Shortcuts.{no_comment}
use borrow.Author.Rules.{rules}
use mathlib.Core.Path.{refl, sym, ◌∙◌}
use native.Mathlib.Omega.{arith}
use Rattle.plays.proofs.counts.count_comments.Goals as goal

pub loop-next-init : goal.loop-next-init
loop-next-init c = remarking_start c.args.s.now c.args.c.at

pub returns-then-not-begins_comment : goal.returns-then-not-begins_comment
returns-then-not-begins_comment c =
    let l = c.loop-next in
    let s = c.args.s.now in
    remarking_done s l.next.at l.invariant l.next refl (no_comment s l.next.at (sym c.begins_comment.ensures ∙ c.if-not-begins_comment.true))

pub returns-in_default : goal.returns-in_default
returns-in_default c = let l = c.loop-next in remarking_done c.args.s.now l.next.at l.invariant l.next refl (sym c.comment_line.ensures ∙ c.in_default.is)

pub overflow_add-count : goal.overflow_add-count
overflow_add-count c = let l = c.loop-next in let b = remarking_bound c.args.s.now l.next.at l.invariant c.in-Some.remark.from c.in-Some.remark.to c.in-Some.remark.next (sym c.comment_line.ensures ∙ c.in-Some.is) (search rules) in
    omega (arith, b.0)

pub overflow_sub-bytes : goal.overflow_sub-bytes
overflow_sub-bytes c = let l = c.loop-next in (remark_goes c.args.s.now l.next.at c.in-Some.remark.from c.in-Some.remark.to c.in-Some.remark.next (sym c.comment_line.ensures ∙ c.in-Some.is)).1

pub overflow_add-bytes : goal.overflow_add-bytes
overflow_add-bytes c = let l = c.loop-next in let b = remarking_bound c.args.s.now l.next.at l.invariant c.in-Some.remark.from c.in-Some.remark.to c.in-Some.remark.next (sym c.comment_line.ensures ∙ c.in-Some.is) (search rules) in
    omega (arith, b.1)

pub loop-next-smaller : goal.loop-next-smaller
loop-next-smaller c = let l = c.loop-next in let h = remark_goes c.args.s.now l.next.at c.in-Some.remark.from c.in-Some.remark.to c.in-Some.remark.next (sym c.comment_line.ensures ∙ c.in-Some.is) in
    omega (arith, h.0, h.1, h.2, h.3)

pub loop-next-preserved : goal.loop-next-preserved
loop-next-preserved c = let l = c.loop-next in remarking_more c.args.s.now l.next.at l.invariant c.in-Some.remark.from c.in-Some.remark.to c.in-Some.remark.next (sym c.comment_line.ensures ∙ c.in-Some.is)
