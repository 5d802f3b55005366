-- 成 before 香, 桂 or 銀 is a kind of its own, and before any other none (`promoted-number`).
-- Assumes nothing.
use native.Mathlib.Omega.{arith}
use mathlib.Core.Path.{◌≡◌, ap, ◌∙◌}
use mathlib.Core.List.{[], ◌∷◌, ◌++◌}
use Rattle.spell.specs.Tables.{kinds}
use Rattle.spell.specs.Words.{promotes}
use Rattle.spell.specs.Spell.{number_spelled}
use Rattle.spell.specs.inner.Slots.{promoted_of}
use Rattle.spell.proofs.Lookups.{promoted-number, promoted-low, promoted-high, promoted-some}
use Rattle.spell.proofs.promoted_of.Goals as goal
use Rattle.spell.proofs.promoted_of.Goals.{After-kind_of}

-- 成 and what was found are spelled so
spelled-so : (c : After-kind_of) → promoted_of c.kind_of.result ≡ number_spelled kinds (promotes ++ (c.args.a ∷ c.args.b ∷ c.args.c ∷ []))
spelled-so c = ap promoted_of c.kind_of.ensures ∙ promoted-number _ _ _ (omega arith) (omega arith) (omega arith)

pub returns-in-2-to-4 : goal.returns-in-2-to-4
returns-in-2-to-4 c = promoted-some c.kind_of.result (omega arith) (omega arith) ∙ spelled-so (goal.at.returns-in-2-to-4 c).After-kind_of

pub returns-in_default : goal.returns-in_default
returns-in_default c = promoted-low c.kind_of.result (omega arith) ∙ spelled-so (goal.at.returns-in_default c).After-kind_of

pub returns-in_default-2 : goal.returns-in_default-2
returns-in_default-2 c = promoted-high c.kind_of.result (omega arith) (omega arith) ∙ spelled-so (goal.at.returns-in_default-2 c).After-kind_of
