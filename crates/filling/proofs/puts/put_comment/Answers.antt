-- The row and the bytes are stored at their ends.
-- Assumes nothing.
use Prim.Native.Nat.{◌<◌, ◌+◌, ◌-◌}
use mathlib.Core.Path.{◌≡◌, sym, ap, ◌∙◌}
use native.Mathlib.Omega.{arith}
use lib.ListN.{length}
use Rattle.lent.proofs.Regions.{length-put}
use Rattle.filling.proofs.Putting.{comment-room, comment-none, comment_done}
use borrow.Author.Rules.{rules}
use Rattle.filling.proofs.puts.put_comment.Goals as goal

pub returns-then-not-has_comment : goal.returns-then-not-has_comment
returns-then-not-has_comment c =
    let w = (let a = c.args in comment-none a.c.now a.w a.out.now (sym c.has_comment.ensures ∙ c.if-not-has_comment.true)) in
    record { value = w.0; out_after = w.1 }

pub overflow_add-text : goal.overflow_add-text
overflow_add-text c = let a = c.args in let b : length a.out.now < 9223372036854775808 = search rules in omega (arith, (comment-room (length a.c.now) a.w (length a.out.now) (sym c.has_comment.ensures ∙ c.if-not-has_comment.false)).text, b)

pub slice_bounds-put_bytes-end : goal.slice_bounds-put_bytes-end
slice_bounds-put_bytes-end c = let a = c.args in let l : length c.put_comment_row-comments.new.out ≡ length a.out.now = ap length c.put_comment_row-comments.ensures.bytes ∙ simp length-put in omega (arith, (comment-room (length a.c.now) a.w (length a.out.now) (sym c.has_comment.ensures ∙ c.if-not-has_comment.false)).text, l)

pub overflow_add-result : goal.overflow_add-result
overflow_add-result c = let a = c.args in omega (arith, (comment-room (length a.c.now) a.w (length a.out.now) (sym c.has_comment.ensures ∙ c.if-not-has_comment.false)).noted)

pub overflow_add-result-2 : goal.overflow_add-result-2
overflow_add-result-2 c = let a = c.args in omega (arith, (comment-room (length a.c.now) a.w (length a.out.now) (sym c.has_comment.ensures ∙ c.if-not-has_comment.false)).bytes)

pub returns : goal.returns
returns c =
    let w = (let a = c.args in let added : a.w.text + length a.c.now - a.w.text ≡ length a.c.now = omega arith in comment_done a.c.now a.w a.out.now (sym c.has_comment.ensures ∙ c.if-not-has_comment.false) c.put_comment_row-comments.ensures c.put_bytes.ensures added) in
    record { value = w.0; out_after = w.1 }
