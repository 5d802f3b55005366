-- Each turn puts one comment more.
-- Assumes nothing.
use Rattle.block.specs.Decode.{run, comment_of}
use Rattle.filling.specs.Filling.{put_comment}
use Rattle.filling.proofs.Growing.{Doing}
use Rattle.edit.proofs.Rests.{rest}
use Rattle.edit.proofs.copies.copy_comments.Given as goal

abbrev pub invariant-loop-i : goal.invariant-loop-i
invariant-loop-i l = Doing put_comment (run (comment_of l.b) l.first l.count) (rest (comment_of l.b) l.first l.count l.i) l.initial.v l.v l.initial.out l.out
