-- The mark 4 decides as in the definition, and each clock is made of the same mark and the same three bytes.
-- Assumes nothing.
use borrow.Author.Tests.{eq-eqb, ne_eqb}
use Rattle.block.specs.EntryBytes.{time_in}
use Rattle.block.proofs.entry_bytes.time_in.Goals as goal

pub returns-then-marks-eq1 : goal.returns-then-marks-eq1
unfolding time_in
returns-then-marks-eq1 c = rw (← c.peek-marks.ensures, eq-eqb _ _ c.if-marks-eq1.true, c.clock_of-now.ensures, c.clock_of-total.ensures, c.peek.ensures, c.peek-then-marks-eq1.ensures, c.peek-then-marks-eq1-2.ensures, c.peek-then-marks-eq1-3.ensures, c.peek-then-marks-eq1-4.ensures, c.peek-then-marks-eq1-5.ensures)

pub returns-else-marks-eq1 : goal.returns-else-marks-eq1
unfolding time_in
returns-else-marks-eq1 c = rw (← c.peek-marks.ensures, ne_eqb _ _ c.if-marks-eq1.false)
