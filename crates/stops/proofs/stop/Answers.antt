-- The two tests are the definition's, in its order.
-- Assumes nothing.
use borrow.Author.Tests.{lt-ltb, le-ltb}
use Rattle.stops.specs.Stopping.{stop_of}
use Rattle.stops.proofs.stop.Goals as goal

pub returns-then-text-gt65535 : goal.returns-then-text-gt65535
unfolding stop_of
returns-then-text-gt65535 c = rw (lt-ltb _ _ c.if-text-gt65535.true)

pub returns-then-n-text : goal.returns-then-n-text
unfolding stop_of
returns-then-n-text c = rw (le-ltb _ _ c.if-text-gt65535.false, ← c.well_formed-n.ensures, lt-ltb _ _ c.if-n-text.true)

pub returns : goal.returns
unfolding stop_of
returns c = rw (le-ltb _ _ c.if-text-gt65535.false, ← c.well_formed-n.ensures, le-ltb _ _ c.if-n-text.false) c.stop_text.ensures
