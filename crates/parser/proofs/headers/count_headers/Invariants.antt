-- The bytes counted so far and those of the lines to come are all bytes, and no line has more than the text.
-- Assumes nothing.
use Rattle.parser.proofs.Headed.{Summing}
use Rattle.parser.proofs.headers.count_headers.Given as goal

abbrev pub invariant-loop-at : goal.invariant-loop-at
invariant-loop-at l = Summing l.s l.places l.bytes l.at-index
