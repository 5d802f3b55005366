-- What is found in the whole table is found in the rows that are left.
-- Assumes nothing.
use mathlib.Core.Path.{◌≡◌}
use lib.ListN.{drop}
use Rattle.spell.specs.Spell.{first_of}
use Rattle.spell.specs.inner.Rows.{spellings}
use Rattle.spell.proofs.find.Given as goal

abbrev pub invariant-loop-row : goal.invariant-loop-row
invariant-loop-row g l = first_of (spellings l.table) l.s l.at ≡ first_of (spellings (drop l.row-index l.table)) l.s l.at
