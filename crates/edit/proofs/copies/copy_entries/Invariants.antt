-- Each turn puts one entry more with its comments.
-- Assumes nothing.
use Rattle.block.specs.Decode.{run, noted_in}
use Rattle.filling.specs.Filling.{put_noted}
use Rattle.filling.proofs.Growing.{Doing}
use Rattle.edit.proofs.Rests.{rest}
use Rattle.edit.proofs.copies.copy_entries.Given as goal

abbrev pub invariant-loop-i : goal.invariant-loop-i
invariant-loop-i l = Doing put_noted (run (noted_in l.b.bytes.now) l.k l.count) (rest (noted_in l.b.bytes.now) l.k l.count l.i) l.initial.v l.v l.initial.out l.out
