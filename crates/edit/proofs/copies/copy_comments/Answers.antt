use Rattle.block.specs.Decode.{comment_of}
use Rattle.filling.proofs.Growing.{comment-size}
use Rattle.edit.proofs.Copied.{run_step, run_done}
use Rattle.edit.proofs.copies.copy_comments.Goals as goal

pub loop-i-preserved : goal.loop-i-preserved
loop-i-preserved c = let a = c.args in let l = c.loop-i in run_step (comment_of a.b.now) a.first a.count l.invariant c.comment_of.result.now c.comment_of.ensures c.loop-i-test.true (comment-size c.comment_of.result.now l.v l.out) c.put_comment-v.ensures.value c.put_comment-v.ensures.out_after

pub returns : goal.returns
returns c =
    let w = (let a = c.args in run_done (comment_of a.b.now) a.first a.count c.loop-i.invariant c.loop-i-test.false) in
    record { value = w.0; out_after = w.1 }
