-- The answers are those of the definition, test by test.
-- Assumes nothing.
use Prim.Native.Nat.{ℕ, ◌+◌}
use native.Mathlib.Omega.{arith}
use mathlib.Core.Path.{sym, ap, subst, ◌∙◌}
use mathlib.Core.List.{List}
use lib.ListN.{drop}
use borrow.Author.Tests.{lt-ltb, le-ltb}
use Rattle.block.specs.Decode.{lines_in, entry_count}
use Rattle.block.proofs.Sounding.{made_of, none_of}
use Rattle.positions.specs.Paths.{path_to, play_all, at_start, start_on, position_after}
use Rattle.positions.proofs.Longs.{Long, long_in, long-start}
use Rattle.positions.proofs.paths.position_after.Goals as goal

pub returns-in_default : goal.returns-in_default
unfolding position_after
returns-in_default c = rw (none_of c.args.b c.of.ensures c.in_default.not-Some) c.not_played.ensures

pub returns-then-lines_in-line : goal.returns-then-lines_in-line
unfolding position_after
returns-then-lines_in-line c = rw ((made_of c.args.b c.of.ensures c.in-Some.sound c.in-Some.is).0, ← c.lines_in.ensures.0, le-ltb _ _ c.if-lines_in-line.true) c.not_played-then-lines_in-line.ensures

pub returns-then-not-has_start : goal.returns-then-not-has_start
unfolding position_after
returns-then-not-has_start c = rw ((made_of c.args.b c.of.ensures c.in-Some.sound c.in-Some.is).0, ← c.lines_in.ensures.0, lt-ltb _ _ c.if-lines_in-line.false, ← c.position_of-p.ensures, ← c.has_start.ensures, c.if-not-has_start.true) c.not_played-then-not-has_start.ensures

pub returns-then-entry_count-entry : goal.returns-then-entry_count-entry
unfolding position_after
returns-then-entry_count-entry c = rw ((made_of c.args.b c.of.ensures c.in-Some.sound c.in-Some.is).0, ← c.lines_in.ensures.0, lt-ltb _ _ c.if-lines_in-line.false, ← c.position_of-p.ensures, ← c.has_start.ensures, c.if-not-has_start.false, ← c.entry_count.ensures.0, le-ltb _ _ c.if-entry_count-entry.true) c.not_played-then-entry_count-entry.ensures

pub play_from-requires : goal.play_from-requires
play_from-requires c =
    let b = c.args.b.now in
    let same = (made_of c.args.b c.of.ensures c.in-Some.sound c.in-Some.is).1 in
    let l : Long c.start_on.result = subst Long (sym (c.start_on.ensures ∙ ap start_on c.position_of-p.ensures)) (long-start _ (long_in (drop 28 b))) in
    (omega (arith, ap lines_in same, c.lines_in.ensures.0, c.if-lines_in-line.false), omega (arith, ap (λ (t : List ℕ). entry_count t c.args.line) same, c.entry_count.ensures.0, c.if-entry_count-entry.false), l.cells, l.hands)

pub returns : goal.returns
unfolding position_after
returns c =
    let a = c.args in
    let (s, same) = made_of a.b c.of.ensures c.in-Some.sound c.in-Some.is in
    let played = c.play_from.ensures ∙ ap (λ (t : List ℕ). play_all t (path_to t a.line (a.entry + 1)) (at_start c.start_on.result)) (sym same) in
    rw (s, ← c.lines_in.ensures.0, lt-ltb _ _ c.if-lines_in-line.false, ← c.position_of-p.ensures, ← c.has_start.ensures, c.if-not-has_start.false, ← c.entry_count.ensures.0, lt-ltb _ _ c.if-entry_count-entry.false, ← c.start_on.ensures, ← played) c.course_answer.ensures
