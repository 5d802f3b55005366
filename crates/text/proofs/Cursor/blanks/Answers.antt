use native.Mathlib.Omega.{arith}
use mathlib.Core.Path.{sym, ◌∙◌}
use Rattle.text.proofs.Laws.{span-end, span-on, span_off}
use Rattle.text.proofs.Cursor.blanks.Goals as goal

pub returns-else-is_blank : goal.returns-else-is_blank
returns-else-is_blank c =
    sym (c.loop-at.invariant ∙ span_off _ _ _ (omega arith) (sym c.is_blank.ensures ∙ c.if-is_blank.false))

pub loop-at-preserved : goal.loop-at-preserved
loop-at-preserved c =
    c.loop-at.invariant ∙ span-on _ _ _ (omega arith) (sym c.is_blank.ensures ∙ c.if-is_blank.true)

pub returns-after-loop-at : goal.returns-after-loop-at
returns-after-loop-at c = sym (c.loop-at.invariant ∙ span-end _ _ _ c.loop-at-test.false)
