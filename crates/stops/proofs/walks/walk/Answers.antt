use native.Mathlib.Omega.{arith}
use mathlib.Core.Path.{sym, ap, ◌∙◌}
use Rattle.block.proofs.Tabled.{tabled_linked}
use Rattle.plays.specs.Plays.{ply_at, skipped_at, plays_at}
use Rattle.plays.proofs.Variations.{variation_past}
use Rattle.stops.specs.declared.StopAnswer.TheVariants.{NoEntry}
use Rattle.stops.proofs.Walking.{line_counted, walked_start, walked_done, walked_loose, walked_more}
use Rattle.stops.proofs.walks.walk.Goals as goal

pub main_line-gone-requires : goal.main_line-gone-requires
main_line-gone-requires c = (c.requires.0, c.requires.1)

pub loop-at-init : goal.loop-at-init
loop-at-init c = walked_start c.args.s.now c.args.begin.at c.requires.0 c.args.rows.now c.requires.1 c.requires.2 c.main_line-gone.ensures.at_value_too c.main_line-gone.ensures.at_value c.main_line-gone.ensures.rows_after

pub returns-then-line-eq0 : goal.returns-then-line-eq0
returns-then-line-eq0 c = let l = c.loop-at in let n = line_counted c.args.s.now c.args.begin.at c.skips-at.ensures c.count_moves-line.ensures in c.stopped.ensures ∙ sym (walked_done c.args.s.now c.args.begin.at c.requires.0 l.k l.gone.next.at l.gone.end.at l.rows l.invariant (sym n.0 ∙ c.if-line-eq0.true))

pub astray_of-requires : goal.astray_of-requires
astray_of-requires c = let l = c.loop-at in let n = line_counted c.args.s.now c.args.begin.at c.skips-at.ensures c.count_moves-line.ensures in (tabled_linked (plays_at c.args.s.now c.args.begin.at).state l.invariant.tabled l.invariant.passed.hung, omega (arith, l.invariant.passed.some), omega (arith, l.invariant.few, l.invariant.within, c.requires.0))

pub returns-in_default : goal.returns-in_default
returns-in_default c = let l = c.loop-at in let n = line_counted c.args.s.now c.args.begin.at c.skips-at.ensures c.count_moves-line.ensures in ap NoEntry c.astray_of.ensures ∙ sym (walked_loose c.args.s.now c.args.begin.at c.requires.0 l.k l.gone.next.at l.gone.end.at l.rows l.invariant (λ z. c.if-line-eq0.false (n.0 ∙ z)) (c.ply-start.ensures ∙ ap (ply_at c.args.s.now) c.skips-at.ensures) c.skips-at.ensures (sym c.hang_of.ensures ∙ c.in_default.is))

pub overflow_mul-k : goal.overflow_mul-k
overflow_mul-k c = let l = c.loop-at in omega (arith, l.invariant.few, l.invariant.within, c.requires.0)

pub overflow_add-k : goal.overflow_add-k
overflow_add-k c = let l = c.loop-at in omega (arith, l.invariant.few, l.invariant.within, c.requires.0)

pub loop-at-smaller : goal.loop-at-smaller
loop-at-smaller c = let l = c.loop-at in let n = line_counted c.args.s.now c.args.begin.at c.skips-at.ensures c.count_moves-line.ensures in let p = variation_past c.args.s.now l.gone.next.at (λ z. c.if-line-eq0.false (n.0 ∙ z)) in omega (arith, p.0, p.1, c.skipped.ensures, ap (skipped_at c.args.s.now) n.1)

pub loop-at-preserved : goal.loop-at-preserved
loop-at-preserved c = let l = c.loop-at in let n = line_counted c.args.s.now c.args.begin.at c.skips-at.ensures c.count_moves-line.ensures in walked_more c.args.s.now c.args.begin.at c.requires.0 l.k l.gone.next.at l.gone.end.at l.rows l.invariant (λ z. c.if-line-eq0.false (n.0 ∙ z)) (c.ply-start.ensures ∙ ap (ply_at c.args.s.now) c.skips-at.ensures) (sym c.hang_of.ensures ∙ c.in-Some.is) n.0 c.put_line_row.ensures.bytes n.1 (c.skipped.ensures ∙ ap (skipped_at c.args.s.now) n.1)
