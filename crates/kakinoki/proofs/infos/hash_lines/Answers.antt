use native.Mathlib.Omega.{arith}
use mathlib.Core.Path.{◌≡◌, sym, ◌∙◌}
use lib.ListN.{length}
use Rattle.text.proofs.Laws.{After}
use Rattle.kakinoki.specs.Informations.{hash_lines_at}
use Rattle.kakinoki.proofs.Lines.{hash_more, hash_stop}
use Rattle.kakinoki.proofs.infos.hash_lines.Goals as goal
use Rattle.kakinoki.proofs.infos.hash_lines.Goals.{In-Some}

turn : (c : In-Some) → After c.loop-past.next.at (length c.args.s.now) c.in-Some.past
    × (hash_lines_at c.args.s.now c.loop-past.next.at ≡ hash_lines_at c.args.s.now c.in-Some.past.at)
turn c =
    hash_more c.args.s.now c.loop-past.next.at c.in-Some.past (sym c.hash_line.ensures ∙ c.in-Some.is)

pub returns : goal.returns
returns c =
    sym (c.loop-past.invariant ∙ hash_stop c.args.s.now c.loop-past.next.at (sym c.hash_line.ensures ∙ c.in_default.is))

pub loop-past-smaller : goal.loop-past-smaller
loop-past-smaller c = let a = (turn c).0 in omega (arith, a.past, a.within)

pub loop-past-preserved : goal.loop-past-preserved
loop-past-preserved c = c.loop-past.invariant ∙ (turn c).1
