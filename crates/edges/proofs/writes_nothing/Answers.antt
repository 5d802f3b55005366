-- What was written is no longer than the buffer, which has no byte.
-- Assumes nothing.
use native.Mathlib.Omega.{arith}
use borrow.Author.Tests.{eq-eqb}
use Rattle.edges.proofs.writes_nothing.Goals as goal

pub expect-requires : goal.expect-requires
expect-requires c = eq-eqb c.put_kind.result 0 (omega arith)

pub expect-requires-2 : goal.expect-requires-2
expect-requires-2 c = eq-eqb c.put_board_kind.result 0 (omega arith)

pub expect-requires-3 : goal.expect-requires-3
expect-requires-3 c = eq-eqb c.put_special.result 0 (omega arith)

pub expect-requires-4 : goal.expect-requires-4
expect-requires-4 c = eq-eqb c.put_preset.result 0 (omega arith)

pub expect-requires-5 : goal.expect-requires-5
expect-requires-5 c = eq-eqb c.put_numeral.result 0 (omega arith)

pub expect-requires-6 : goal.expect-requires-6
expect-requires-6 c = eq-eqb c.put_file.result 0 (omega arith)

pub expect-requires-7 : goal.expect-requires-7
expect-requires-7 c = eq-eqb c.put_count.result 0 (omega arith)
