use native.Mathlib.Omega.{arith}
use mathlib.Core.Path.{sym, ◌∙◌}
use Rattle.text.specs.Utf8.{char_width}
use Rattle.text.proofs.Widths.{past_stop}
use Rattle.text.proofs.utf8.well_formed.Goals as goal

pub returns-then-e-at : goal.returns-then-e-at
returns-then-e-at c = sym (c.loop-at.invariant ∙ past_stop char_width c.args.s.now c.loop-at.at (c.characters-e.ensures.1 c.if-e-at.true))

pub loop-at-smaller : goal.loop-at-smaller
loop-at-smaller c = omega (arith, c.characters-e.ensures.0.from, c.characters-e.ensures.0.within)

pub loop-at-preserved : goal.loop-at-preserved
loop-at-preserved c = c.loop-at.invariant ∙ c.characters-e.ensures.0.same
