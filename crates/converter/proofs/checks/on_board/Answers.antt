-- The mark 2 decides as in the definition, and the file and the rank are read where they stand.
-- Assumes nothing.
use mathlib.Core.Path.{sym}
use borrow.Author.Tests.{eq-eqb, ne_eqb}
use Rattle.block.specs.EntryBytes.{target_in}
use Rattle.converter.proofs.checks.on_board.Goals as goal

pub returns-then-row-eq1 : goal.returns-then-row-eq1
unfolding target_in
returns-then-row-eq1 c = sym (rw (eq-eqb _ _ c.if-row-eq1.true))

pub returns-then-within : goal.returns-then-within
unfolding target_in
returns-then-within c = rw (ne_eqb _ _ c.if-row-eq1.false, ← c.within.ensures, c.if-within.true, ← c.within-then-within.ensures)

pub returns-else-within : goal.returns-else-within
unfolding target_in
returns-else-within c = sym (rw (ne_eqb _ _ c.if-row-eq1.false, ← c.within.ensures, c.if-within.false))
