-- Each turn puts one header entry more.
-- Assumes nothing.
use Rattle.block.specs.Decode.{run, header_in}
use Rattle.filling.specs.Filling.{put_header}
use Rattle.filling.proofs.Growing.{Doing}
use Rattle.edit.proofs.Rests.{rest}
use Rattle.edit.proofs.copies.copy_headers.Given as goal

abbrev pub invariant-loop-k : goal.invariant-loop-k
invariant-loop-k l = Doing put_header (run (header_in l.b) 0 l.count) (rest (header_in l.b) 0 l.count l.k) l.initial.v l.v l.initial.out l.out
