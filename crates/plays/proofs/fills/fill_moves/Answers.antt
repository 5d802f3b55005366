use Rattle.plays.proofs.Filled.{entering_start, entering_step, entering_done}
use Rattle.plays.proofs.Losing.{losses_more, losses_none, losses_few}
use Rattle.plays.proofs.Items.{comments-from, comments-within}
use Rattle.plays.specs.Losses.{one, lost_from}
use Rattle.moves.proofs.Goings.{move_goes}
use borrow.Author.Rules.{rules}
use lib.ListN.{length}
use mathlib.Core.Path.{sym, ap, ◌∙◌}
use native.Mathlib.Omega.{arith}
use Prim.Native.Nat.{◌<◌}
use Rattle.plays.proofs.fills.fill_moves.Goals as goal

pub loop-line-init : goal.loop-line-init
loop-line-init c = (entering_start, omega arith)

pub returns-in_default : goal.returns-in_default
returns-in_default c =
    let s = c.args.s.now in
    let at = c.loop-line.next.at in
    let none = sym (ap (λ t. t.line) c.taken_line-taken.ensures) ∙ c.in_default.is in
    let d = entering_done c.loop-line.invariant.0 none in
    let l = c.loop-line.invariant.1 in
    record { walk_value = d.0; out_after = d.1.0; at_value = d.1.1; lost_value = omega (arith, l, losses_none s at none) }

pub overflow_add-lost : goal.overflow_add-lost
overflow_add-lost c =
    let s = c.args.s.now in
    let at = c.loop-line.next.at in
    let q = sym (ap (λ t. t.line) c.taken_line-taken.ensures) ∙ c.in-Some.is in
    let b = c.one-lost.ensures ∙ ap (λ t. one t.lost) c.taken_line-taken.ensures in
    let short : length s < 9223372036854775808 = search rules in
    omega (arith, c.loop-line.invariant.1, losses_more s at c.in-Some.line.number c.in-Some.line.entry c.in-Some.line.next q, b, losses_few s c.args.c.at, short)

pub loop-line-smaller : goal.loop-line-smaller
loop-line-smaller c =
    let s = c.args.s.now in
    let h = move_goes s c.loop-line.next.at c.in-Some.line.number c.in-Some.line.entry c.in-Some.line.next (sym (ap (λ t. t.line) c.taken_line-taken.ensures) ∙ c.in-Some.is) in
    omega (arith, h.past, c.fill_noted-entry.ensures.at_value, comments-from s c.in-Some.line.next.at, comments-within s c.in-Some.line.next.at h.within)

pub loop-line-preserved : goal.loop-line-preserved
loop-line-preserved c =
    let s = c.args.s.now in
    let at = c.loop-line.next.at in
    let q = sym (ap (λ t. t.line) c.taken_line-taken.ensures) ∙ c.in-Some.is in
    let b = c.one-lost.ensures ∙ ap (λ t. one t.lost) c.taken_line-taken.ensures in
    let n = ap (lost_from s) c.fill_noted-entry.ensures.at_value in
    (entering_step c.loop-line.invariant.0 c.in-Some.line.number c.in-Some.line.entry c.in-Some.line.next q c.fill_noted-entry.ensures.walk_value c.fill_noted-entry.ensures.out_after c.fill_noted-entry.ensures.at_value, omega (arith, c.loop-line.invariant.1, losses_more s at c.in-Some.line.number c.in-Some.line.entry c.in-Some.line.next q, b, n))
