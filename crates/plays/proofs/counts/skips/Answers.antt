use Rattle.plays.proofs.Items.{skips-more, skips-none}
use Rattle.moves.proofs.Goings.{skip_goes}
use mathlib.Core.Path.{sym, ◌∙◌}
use native.Mathlib.Omega.{arith}
use Rattle.plays.proofs.counts.skips.Goals as goal

pub returns : goal.returns
returns c = let l = c.loop-past in sym (l.invariant ∙ skips-none c.args.s.now l.next.at (sym c.skip_line.ensures ∙ c.in_default.is))

pub loop-past-smaller : goal.loop-past-smaller
loop-past-smaller c = let l = c.loop-past in let s = c.args.s.now in
    let h = skip_goes s l.next.at c.in-Some.past (sym c.skip_line.ensures ∙ c.in-Some.is) in
    omega (arith, h.past, h.within)

pub loop-past-preserved : goal.loop-past-preserved
loop-past-preserved c = let l = c.loop-past in let s = c.args.s.now in l.invariant ∙ skips-more s l.next.at _ (sym c.skip_line.ensures ∙ c.in-Some.is)
