-- The invariant: the lines of the first n leading keys are written. The next has a place, and then one line more, or none.
-- Assumes nothing.
use Rattle.lent.specs.Bytes.{Wrote}
use Rattle.converter.proofs.Heading.{leads}
use Rattle.converter.proofs.starts.put_leading.Given as goal

abbrev pub invariant-loop-place : goal.invariant-loop-place
invariant-loop-place l = Wrote (leads l.b l.place-index) l.initial.out l.out l.at
