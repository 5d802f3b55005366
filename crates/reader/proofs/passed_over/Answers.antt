use native.Mathlib.Omega.{arith}
use mathlib.Core.Path.{sym, ◌∙◌}
use Rattle.reader.proofs.Turns.{goes_first, Turned, turned, goes_turn, goes_last}
use Rattle.reader.proofs.passed_over.Goals as goal
use Rattle.reader.proofs.passed_over.Goals.{In-Some}

turns : (c : In-Some) → Turned c.args.text.now c.loop-q.p c.in-Some.q
turns c = turned _ _ _ (sym c.with_line.ensures ∙ c.in-Some.is)

pub loop-q-init : goal.loop-q-init
loop-q-init c = goes_first _ _

pub with_line-requires : goal.with_line-requires
with_line-requires c = c.loop-q.invariant.small

pub returns : goal.returns
returns c = sym (goes_last _ _ _ c.loop-q.invariant (sym c.with_line.ensures ∙ c.in_default.is))

pub loop-q-smaller : goal.loop-q-smaller
loop-q-smaller c = let t = turns c in omega (arith, t.on, t.within)

pub loop-q-preserved : goal.loop-q-preserved
loop-q-preserved c = goes_turn _ _ _ _ c.loop-q.invariant (turns c)
