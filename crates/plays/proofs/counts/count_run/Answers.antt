use borrow.Author.Rules.{rules}
use Rattle.plays.specs.Plays.{comments_at}
use Rattle.plays.specs.inner.Runs.{run_at}
use Rattle.plays.proofs.Counting.{extending_start, extending_on, extending_room, extending_done, line-past}
use Rattle.plays.proofs.Sequences.{run_more, run_none, run_stray, run_room}
use mathlib.Core.Path.{◌≡◌, refl, sym, ◌∙◌}
use native.Mathlib.Omega.{arith}
use Prim.Native.Nat.{◌+◌}
use Rattle.moves.proofs.Shortcuts.{line_back, line-none}
use Rattle.plays.proofs.counts.count_run.Goals as goal

pub loop-past-init : goal.loop-past-init
loop-past-init c =
    let a = c.args in
    let none : a.n + 0 ≡ a.n = omega arith in
    rw none (extending_start (run_at a.any a.n a.s.now a.c.at) a.c)

pub returns-in_default : goal.returns-in_default
returns-in_default c =
    let x = c.loop-past.x in
    let a = c.args in
    let s = a.s.now in
    extending_done s c.loop-past.invariant x.next.at refl
    (run_none s a.any (a.n + x.entries) x.next.at (line-none _ _ (sym c.move_line_end.ensures ∙ c.in_default.is)))

pub returns-then-not-goes_on : goal.returns-then-not-goes_on
returns-then-not-goes_on c =
    let x = c.loop-past.x in
    let a = c.args in
    let s = a.s.now in
    let past = c.in-Some.past in
    let k = line_back s x.next.at past (sym c.move_line_end.ensures ∙ c.in-Some.is) in
    extending_done s c.loop-past.invariant x.next.at refl
    (run_stray s x.next.at k.0 k.1 past k.2 a.any (a.n + x.entries) (sym c.goes_on.ensures ∙ c.if-not-goes_on.true))

pub extended-x-requires : goal.extended-x-requires
extended-x-requires c =
    let x = c.loop-past.x in
    let a = c.args in
    let s = a.s.now in
    let past = c.in-Some.past in
    let k = line_back s x.next.at past (sym c.move_line_end.ensures ∙ c.in-Some.is) in
    let f = sym c.goes_on.ensures ∙ c.if-not-goes_on.false in
    rw c.count_comments.ensures
    (extending_room s c.loop-past.invariant k.1 past.at (run_at a.any (a.n + x.entries + 1) s (comments_at s past.at).at)
    (run_more s x.next.at k.0 k.1 past k.2 a.any (a.n + x.entries) f) (run_room s a.any a.n a.c.at) (search rules))

pub loop-past-smaller : goal.loop-past-smaller
loop-past-smaller c =
    let s = c.args.s.now in
    let x = c.loop-past.x in
    let past = c.in-Some.past in
    let k = line_back s x.next.at past (sym c.move_line_end.ensures ∙ c.in-Some.is) in
    rw (c.extended-x.ensures, c.count_comments.ensures) (omega (arith, line-past s x.next.at k.0 k.1 past k.2))

pub loop-past-preserved : goal.loop-past-preserved
loop-past-preserved c =
    let x = c.loop-past.x in
    let a = c.args in
    let s = a.s.now in
    let past = c.in-Some.past in
    let k = line_back s x.next.at past (sym c.move_line_end.ensures ∙ c.in-Some.is) in
    let f = sym c.goes_on.ensures ∙ c.if-not-goes_on.false in
    let one : a.n + x.entries + 1 ≡ a.n + (x.entries + 1) = omega arith in
    rw (c.extended-x.ensures, c.count_comments.ensures)
    (extending_on s c.loop-past.invariant k.1 past.at (run_at a.any (a.n + (x.entries + 1)) s)
    (rw one at (run_more s x.next.at k.0 k.1 past k.2 a.any (a.n + x.entries) f)))
