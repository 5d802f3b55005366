-- The tests are the definition's; a byte that is below 128, or not below 192, begins a character.
-- Assumes nothing.
use mathlib.Core.Logic.{⊎_elim}
use borrow.Author.Tests.{eq-eqb, ne_eqb, le-ltb}
use Rattle.text.specs.Utf8.{is_next}
use Rattle.stops.proofs.Columns.{below_next, above-next}
use Rattle.stops.proofs.spots.next_spot.Goals as goal

pub returns-then-b-eq10 : goal.returns-then-b-eq10
returns-then-b-eq10 c = rw (eq-eqb _ _ c.if-b-eq10.true)

pub returns-then-b-lt192 : goal.returns-then-b-lt192
unfolding is_next
returns-then-b-lt192 c = rw (ne_eqb _ _ c.if-b-eq10.false, le-ltb _ _ c.if-b-ge128.true, c.if-b-lt192.true-raw)

pub returns : goal.returns
returns c =
    let e = ⊎_elim (λ w. above-next w.0 (le-ltb _ _ w.1)) (λ w. below_next w) c.else-b-ge128.either in
    rw (ne_eqb _ _ c.if-b-eq10.false, e)
