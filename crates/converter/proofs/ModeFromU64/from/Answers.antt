-- 1 and 2 are told, and any other number is neither.
-- Assumes nothing.
use borrow.Author.Tests.{ne_eqb}
use Rattle.converter.proofs.ModeFromU64.from.Goals as goal

pub returns-in-1 : goal.returns-in-1
returns-in-1 c = rw c.in-1.is

pub returns-in-2 : goal.returns-in-2
returns-in-2 c = rw c.in-2.is

pub returns-in_default : goal.returns-in_default
returns-in_default c = rw (ne_eqb _ _ c.in_default.in_default-own.rest.0.1, ne_eqb _ _ c.in_default.in_default-own.rest.1)
