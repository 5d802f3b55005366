use native.Mathlib.Omega.{arith}
use mathlib.Core.Path.{sym, ◌∙◌}
use Rattle.text.proofs.Laws.{span-end, span-on, span_off}
use Rattle.text.proofs.Cursor.text.Goals as goal

pub returns-else-is_text : goal.returns-else-is_text
returns-else-is_text c =
    sym (c.plain_text-at.ensures.same ∙ c.loop-at.invariant ∙ span_off _ _ _ (omega arith) (sym c.is_text.ensures ∙ c.if-is_text.false))

pub loop-at-preserved : goal.loop-at-preserved
loop-at-preserved c =
    c.loop-at.invariant ∙ span-on _ _ _ (omega arith) (sym c.is_text.ensures ∙ c.if-is_text.true)

pub returns-after-loop-at : goal.returns-after-loop-at
returns-after-loop-at c = sym (c.plain_text-at.ensures.same ∙ c.loop-at.invariant ∙ span-end _ _ _ c.loop-at-test.false)
