use Rattle.std.specs.Prelude.{Some, None}
use Prim.Native.Nat.{◌<◌}
use native.Mathlib.Omega.{arith}
use mathlib.Core.Path.{refl, sym, ap, ap₂, ◌∙◌}
use lib.ListN.{length}
use Rattle.jkf.specs.Attaching.{Hung, all}
use Rattle.jkf.proofs.Hangings.{not_all}
use Rattle.block.proofs.Attached.{attach-length}
use Rattle.plays.specs.Plays.{slot_at, plays_at}
use Rattle.plays.specs.Losses.{plays_lost}
use Rattle.plays.proofs.Losing.{losses_few}
use Rattle.parser.specs.inner.Lines.{hanging}
use Rattle.parser.proofs.Lining.{main_fits, lining_start, next-none, next_less, next_row, next_lost, next_more, none_lost, some_lost, fill_lost}
use Rattle.plays.proofs.Variations.{lost_few}
use Rattle.filling.proofs.Hooking.{row_told, none_told}
use borrow.Author.Rules.{rules}
use Rattle.parser.proofs.fills.fill_lines.Goals as goal

pub fill_main-main-requires : goal.fill_main-main-requires
fill_main-main-requires c = main_fits c.args.s.now c.args.c.at c.args.w c.args.out.now c.requires

pub loop-walk-init : goal.loop-walk-init
loop-walk-init c = (λ at w o e f d n. lining_start c.args.s.now at w o f d n, refl)

pub returns-then-v-walk : goal.returns-then-v-walk
returns-then-v-walk c = let l = c.loop-walk in let n = next-none c.args.s.now c.args.c.at c.args.w c.args.out.now c.requires l.k l.walk l.next.at l.out (l.invariant.0 c.args.c.at c.args.w c.args.out.now refl c.requires c.fill_main-main.ensures.lined c.fill_main-main.ensures.at_value) c.skips-at.result c.skips-at.ensures c.fill_moves-line.result _ c.fill_moves-line.ensures.walk_value c.fill_moves-line.ensures.out_after c.fill_moves-line.ensures.at_value c.if-v-walk.true in let none = none_lost c.args.s.now c.args.c.at c.args.w c.args.out.now c.requires l.k l.walk l.next.at l.out (l.invariant.0 c.args.c.at c.args.w c.args.out.now refl c.requires c.fill_main-main.ensures.lined c.fill_main-main.ensures.at_value) c.skips-at.result c.skips-at.ensures c.fill_moves-line.result _ c.fill_moves-line.ensures.walk_value c.fill_moves-line.ensures.out_after c.fill_moves-line.ensures.at_value c.if-v-walk.true in let lost = fill_lost c.args.s.now c.args.c.at l.next.at c.fill_main-main.ensures.at_value c.fill_main-main.ensures.lost_value l.invariant.1 none in record { value = sym (ap (λ (h : Hung). hanging h (plays_at c.args.s.now c.args.c.at).at (plays_lost c.args.s.now c.args.c.at)) n.0 ∙ ap₂ (hanging all) n.1 lost); out_after = λ e. n.2 }

pub returns-in_default : goal.returns-in_default
returns-in_default c = let l = c.loop-walk in let n = next_lost c.args.s.now c.args.c.at c.args.w c.args.out.now c.requires l.k l.walk l.next.at l.out (l.invariant.0 c.args.c.at c.args.w c.args.out.now refl c.requires c.fill_main-main.ensures.lined c.fill_main-main.ensures.at_value) c.skips-at.result c.skips-at.ensures c.fill_moves-line.result _ c.fill_moves-line.ensures.walk_value c.fill_moves-line.ensures.out_after c.fill_moves-line.ensures.at_value c.if-v-walk.false None c.ply-start.result c.ply-start.ensures (none_told _ _ _ _ _ (sym c.in_default.is ∙ c.hang_line.ensures.value)) refl in record { value = sym (ap (λ (h : Hung). hanging h (plays_at c.args.s.now c.args.c.at).at (plays_lost c.args.s.now c.args.c.at)) n); out_after = λ e. not_all (sym n ∙ e) }

pub overflow_add-lost : goal.overflow_add-lost
overflow_add-lost c = let l = c.loop-walk in let some = some_lost c.args.s.now c.args.c.at c.args.w c.args.out.now c.requires l.k l.walk l.next.at l.out (l.invariant.0 c.args.c.at c.args.w c.args.out.now refl c.requires c.fill_main-main.ensures.lined c.fill_main-main.ensures.at_value) c.skips-at.result c.skips-at.ensures c.fill_moves-line.result _ c.fill_moves-line.ensures.walk_value c.fill_moves-line.ensures.out_after c.fill_moves-line.ensures.at_value c.if-v-walk.false c.skipped-next.result c.skipped-next.ensures in let short : length c.args.s.now < 9223372036854775808 = search rules in omega (arith, l.invariant.1, some, c.fill_moves-line.ensures.lost_value, c.fill_main-main.ensures.lost_value, losses_few c.args.s.now (slot_at c.args.s.now c.args.c.at).at, lost_few c.args.s.now c.fill_main-main.result.next.at, short)

pub overflow_add-k : goal.overflow_add-k
overflow_add-k c = let l = c.loop-walk in let n = next_row c.args.s.now c.args.c.at c.args.w c.args.out.now c.requires l.k l.walk l.next.at l.out (l.invariant.0 c.args.c.at c.args.w c.args.out.now refl c.requires c.fill_main-main.ensures.lined c.fill_main-main.ensures.at_value) c.skips-at.result c.skips-at.ensures c.fill_moves-line.result _ c.fill_moves-line.ensures.walk_value c.fill_moves-line.ensures.out_after c.fill_moves-line.ensures.at_value c.if-v-walk.false in omega (arith, n, c.requires.lines, attach-length (plays_at c.args.s.now c.args.c.at).state)

pub loop-walk-smaller : goal.loop-walk-smaller
loop-walk-smaller c = let l = c.loop-walk in let n = next_less c.args.s.now c.args.c.at c.args.w c.args.out.now c.requires l.k l.walk l.next.at l.out (l.invariant.0 c.args.c.at c.args.w c.args.out.now refl c.requires c.fill_main-main.ensures.lined c.fill_main-main.ensures.at_value) c.skips-at.result c.skips-at.ensures c.fill_moves-line.result _ c.fill_moves-line.ensures.walk_value c.fill_moves-line.ensures.out_after c.fill_moves-line.ensures.at_value c.if-v-walk.false c.skipped-next.result c.skipped-next.ensures in omega (arith, n.0, n.1)

pub loop-walk-preserved : goal.loop-walk-preserved
loop-walk-preserved c = (λ at w o e f d n. let l = c.loop-walk in let row = row_told _ _ _ _ _ (rw (← e) at (sym c.in-Some.is ∙ c.hang_line.ensures.value)) in next_more c.args.s.now at w o f l.k l.walk l.next.at l.out (l.invariant.0 at w o e f d n) c.skips-at.result c.skips-at.ensures c.fill_moves-line.result _ c.fill_moves-line.ensures.walk_value c.fill_moves-line.ensures.out_after c.fill_moves-line.ensures.at_value c.if-v-walk.false (Some (row.parent, row.entry)) c.ply-start.result c.ply-start.ensures row.hangs row.parent row.entry refl row.walk (rw (← e) at c.hang_line.ensures.out_after ∙ row.buffer) c.skipped-next.result c.skipped-next.ensures, let l = c.loop-walk in let some = some_lost c.args.s.now c.args.c.at c.args.w c.args.out.now c.requires l.k l.walk l.next.at l.out (l.invariant.0 c.args.c.at c.args.w c.args.out.now refl c.requires c.fill_main-main.ensures.lined c.fill_main-main.ensures.at_value) c.skips-at.result c.skips-at.ensures c.fill_moves-line.result _ c.fill_moves-line.ensures.walk_value c.fill_moves-line.ensures.out_after c.fill_moves-line.ensures.at_value c.if-v-walk.false c.skipped-next.result c.skipped-next.ensures in omega (arith, l.invariant.1, some, c.fill_moves-line.ensures.lost_value))
