-- Each arm makes what the definition's clause makes, and the last arm changes nothing.
-- Assumes nothing.
use mathlib.Core.Path.{sym, ◌∙◌}
use borrow.Author.Tests.{eq-eqb, ne_eqb}
use Rattle.kakinoki.specs.Informations.{tell}
use Rattle.kakinoki.proofs.Tags.{tell_else}
use Rattle.kakinoki.proofs.infos.tell.Goals as goal

pub returns-in-Preset : goal.returns-in-Preset
unfolding tell
returns-in-Preset c = λ h. rw c.in-Preset.is

pub returns-in-Turn : goal.returns-in-Turn
unfolding tell
returns-in-Turn c = λ h. rw c.in-Turn.is

pub returns-in_default : goal.returns-in_default
returns-in_default c = λ h. sym (tell_else c.args.told c.args.info c.args.counts h c.in_default.in_default-own.keys4)

pub returns-in-Hands-eq0 : goal.returns-in-Hands-eq0
unfolding tell
returns-in-Hands-eq0 c = let w = c.in-Hands-eq0 in λ h. rw (w.is, eq-eqb _ _ (sym w.field-0-is ∙ w.field-0-test))

pub returns-in-Hands : goal.returns-in-Hands
unfolding tell
returns-in-Hands c = let w = c.in-Hands in λ h. rw (w.is, ne_eqb _ _ (λ e. w.field-0-test.1 (w.field-0-is ∙ e)))
