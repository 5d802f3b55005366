-- The number's spelling in the whole table is that in the rows that are left.
-- Assumes nothing.
use mathlib.Core.Path.{◌≡◌}
use lib.ListN.{drop}
use Rattle.spell.specs.Spell.{spelled}
use Rattle.spell.specs.inner.Rows.{spellings}
use Rattle.spell.proofs.put_spelled.Given as goal

abbrev pub invariant-loop-row : goal.invariant-loop-row
invariant-loop-row g l = (l.out ≡ l.initial.out) × (spelled (spellings l.table) l.n ≡ spelled (spellings (drop l.row-index l.table)) l.n)
