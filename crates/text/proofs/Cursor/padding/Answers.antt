use native.Mathlib.Omega.{arith}
use mathlib.Core.Path.{sym, ◌∙◌}
use Rattle.text.specs.Text.{pad_width}
use Rattle.text.proofs.Widths.{Turn, turn, past_stop, pad_within}
use Rattle.text.proofs.Cursor.padding.Goals as goal
use Rattle.text.proofs.Cursor.padding.Goals.{Else-n-eq0}

turns : (c : Else-n-eq0) → Turn pad_width c.args.s.now c.loop-at.at c.pad_width-n.result
turns c = turn pad_width pad_within _ _ _ c.pad_width-n.ensures c.if-n-eq0.false

pub returns-then-n-eq0 : goal.returns-then-n-eq0
returns-then-n-eq0 c =
    sym (c.loop-at.invariant ∙ past_stop pad_width c.args.s.now c.loop-at.at (sym c.pad_width-n.ensures ∙ c.if-n-eq0.true))

pub overflow_add-at : goal.overflow_add-at
overflow_add-at c = omega (arith, (turns c).within)

pub loop-at-smaller : goal.loop-at-smaller
loop-at-smaller c = omega (arith, (turns c).on, (turns c).within)

pub loop-at-preserved : goal.loop-at-preserved
loop-at-preserved c = c.loop-at.invariant ∙ (turns c).same
