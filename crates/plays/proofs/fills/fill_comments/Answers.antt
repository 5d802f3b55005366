use Rattle.plays.proofs.Filled.{commenting_start, commenting_step, commenting_done}
use Rattle.moves.proofs.Goings.{remark_goes}
use Rattle.moves.proofs.Shortcuts.{no_comment}
use mathlib.Core.Path.{sym, ◌∙◌}
use native.Mathlib.Omega.{arith}
use Rattle.plays.proofs.fills.fill_comments.Goals as goal

pub loop-walk-init : goal.loop-walk-init
loop-walk-init c = commenting_start

pub returns-then-not-begins_comment : goal.returns-then-not-begins_comment
returns-then-not-begins_comment c =
    let w = (let s = c.args.s.now in commenting_done c.loop-walk.invariant (no_comment s c.loop-walk.next.at (sym c.begins_comment.ensures ∙ c.if-not-begins_comment.true))) in
    record { walk_value = w.0; out_after = w.1.0; at_value = w.1.1 }

pub returns-in_default : goal.returns-in_default
returns-in_default c =
    let w = (commenting_done c.loop-walk.invariant (sym c.comment_line.ensures ∙ c.in_default.is)) in
    record { walk_value = w.0; out_after = w.1.0; at_value = w.1.1 }

pub slice_bounds-put_comment-count : goal.slice_bounds-put_comment-count
slice_bounds-put_comment-count c = (remark_goes c.args.s.now c.loop-walk.next.at c.in-Some.remark.from c.in-Some.remark.to c.in-Some.remark.next (sym c.comment_line.ensures ∙ c.in-Some.is)).1

pub slice_bounds-put_comment-start : goal.slice_bounds-put_comment-start
slice_bounds-put_comment-start c = let h = remark_goes c.args.s.now c.loop-walk.next.at c.in-Some.remark.from c.in-Some.remark.to c.in-Some.remark.next (sym c.comment_line.ensures ∙ c.in-Some.is) in omega (arith, h.1, h.2, h.3)

pub slice_bounds-put_comment-end : goal.slice_bounds-put_comment-end
slice_bounds-put_comment-end c = let h = remark_goes c.args.s.now c.loop-walk.next.at c.in-Some.remark.from c.in-Some.remark.to c.in-Some.remark.next (sym c.comment_line.ensures ∙ c.in-Some.is) in omega (arith, h.1, h.2, h.3)

pub loop-walk-smaller : goal.loop-walk-smaller
loop-walk-smaller c = let h = remark_goes c.args.s.now c.loop-walk.next.at c.in-Some.remark.from c.in-Some.remark.to c.in-Some.remark.next (sym c.comment_line.ensures ∙ c.in-Some.is) in omega (arith, h.0, h.1, h.2, h.3)

pub loop-walk-preserved : goal.loop-walk-preserved
loop-walk-preserved c = commenting_step c.loop-walk.invariant c.in-Some.remark.from c.in-Some.remark.to c.in-Some.remark.next (sym c.comment_line.ensures ∙ c.in-Some.is) c.put_comment-walk.ensures.value c.put_comment-walk.ensures.out_after
