-- The row in the slot of the code has the code, and then its number is the answer, or it has not: as the spellings say
-- (`slot-number`).
-- Assumes nothing.
use native.Mathlib.Omega.{arith}
use mathlib.Core.Path.{◌≡◌, refl, ap, ◌∙◌}
use mathlib.Core.List.{[], ◌∷◌}
use Rattle.spell.specs.Tables.{kinds}
use Rattle.spell.specs.Spell.{number_spelled}
use Rattle.spell.specs.inner.Slots.{number_in, kind_slots}
use Rattle.spell.proofs.Lookups.{slot-number, number-some, number-none}
use Rattle.spell.proofs.kind_of.Goals as goal
use Rattle.spell.proofs.kind_of.Goals.{After-code-x}

-- what the slots say, the spellings say
by-slot : (c : After-code-x) → number_in kind_slots 35 c.code-x.result ≡ number_spelled kinds (c.args.a ∷ c.args.b ∷ c.args.c ∷ [])
by-slot c = ap (number_in kind_slots 35) c.code-x.ensures ∙ slot-number kinds kind_slots 35 refl refl refl _ _ _ (omega arith) (omega arith) (omega arith)

pub returns-then-row-x : goal.returns-then-row-x
returns-then-row-x c = number-none kind_slots 35 c.kind_row-row.ensures c.if-row-x.true ∙ by-slot (goal.at.returns-then-row-x c).After-code-x

pub returns : goal.returns
returns c = number-some kind_slots 35 c.kind_row-row.ensures c.if-row-x.false ∙ by-slot (goal.at.returns c).After-code-x
