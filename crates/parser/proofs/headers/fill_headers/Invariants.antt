-- Each turn puts one header entry more.
-- Assumes nothing.
use Rattle.parser.proofs.Headed.{Heading}
use Rattle.parser.proofs.headers.fill_headers.Given as goal

abbrev pub invariant-loop-at : goal.invariant-loop-at
invariant-loop-at l = Heading l.s l.places l.initial.v l.v l.at-index l.initial.out l.out
