-- The row in the slot of the code has the code, and then its number is the answer, or it has not: as the spellings say
-- (`slot-number`).
-- Assumes nothing.
use native.Mathlib.Omega.{arith}
use mathlib.Core.Path.{◌≡◌, refl, ap, ◌∙◌}
use mathlib.Core.List.{[], ◌∷◌}
use Rattle.spell.specs.Tables.{numerals}
use Rattle.spell.specs.Spell.{number_spelled}
use Rattle.spell.specs.inner.Slots.{number_in, numeral_slots}
use Rattle.spell.proofs.Lookups.{slot-number, number-some, number-none}
use Rattle.spell.proofs.digits.numeral_of.Goals as goal
use Rattle.spell.proofs.digits.numeral_of.Goals.{After-code-x}

-- what the slots say, the spellings say
by-slot : (c : After-code-x) → number_in numeral_slots 17 c.code-x.result ≡ number_spelled numerals (c.args.a ∷ c.args.b ∷ c.args.c ∷ [])
by-slot c = ap (number_in numeral_slots 17) c.code-x.ensures ∙ slot-number numerals numeral_slots 17 refl refl refl _ _ _ (omega arith) (omega arith) (omega arith)

pub returns-then-row-x : goal.returns-then-row-x
returns-then-row-x c = number-none numeral_slots 17 c.numeral_row-row.ensures c.if-row-x.true ∙ by-slot (goal.at.returns-then-row-x c).After-code-x

pub returns : goal.returns
returns c = number-some numeral_slots 17 c.numeral_row-row.ensures c.if-row-x.false ∙ by-slot (goal.at.returns c).After-code-x
