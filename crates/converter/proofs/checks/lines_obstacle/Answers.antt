use Rattle.std.specs.Prelude.{ℕ, Option, Some}
use Prim.Native.Nat.{◌+◌, ◌-◌, ◌<◌}
use native.Mathlib.Omega.{arith}
use mathlib.Core.Path.{sym, ap, ◌∙◌}
use Rattle.block.specs.Decode.{run, lines_in}
use Rattle.block.proofs.Sounding.{keeps}
use Rattle.block.proofs.Within.{lines-small, moves-small, entries-within}
use Rattle.converter.specs.Show.{on_obstacle, line_obstacle}
use Rattle.converter.specs.inner.Lines.{line_said}
use Rattle.converter.proofs.Blocked.{line-more, line-none, found_is, lines_obstacle_is}
use Rattle.converter.proofs.checks.lines_obstacle.Goals as goal

pub loop-k-init : goal.loop-k-init
loop-k-init c = (omega arith, lines_obstacle_is c.args.s.counted c.args.mode)

pub overflow_cast-i : goal.overflow_cast-i
overflow_cast-i c = omega (arith, lines-small c.args.s.block.bytes.now (keeps c.args.s.block), c.args.s.counted.most)

pub entry_obstacle-found-requires : goal.entry_obstacle-found-requires
entry_obstacle-found-requires c =
    let b = c.args.s.block.bytes.now in
    let d = keeps c.args.s.block in
    let k = c.loop-k.k in
    let h : k < lines_in b = omega (arith, c.args.s.counted.most) in
    omega (arith, entries-within b d k h, moves-small b d, c.first_entry.ensures.0, c.entry_count.ensures.0)

pub returns-in-Some : goal.returns-in-Some
returns-in-Some c =
    let l = c.loop-k in
    let b = c.args.s.block.bytes.now in
    let n = c.args.s.lines in
    let m = c.args.mode in
    let e = sym (found_is m b l.k _ _ c.first_entry.ensures.0 c.entry_count.ensures.0) ∙ sym c.entry_obstacle-found.ensures ∙ c.in-Some.is in
    sym (l.invariant.1 ∙ line-more (line_said m b) n l.k c.loop-k-test.true ∙ ap (λ (o : Option (ℕ × ℕ)). on_obstacle o (λ x y. Some (x, y)) (line_obstacle (l.k + 1) (run (line_said m b) (l.k + 1) (n - (l.k + 1))))) e)

pub loop-k-preserved : goal.loop-k-preserved
loop-k-preserved c =
    let l = c.loop-k in
    let b = c.args.s.block.bytes.now in
    let n = c.args.s.lines in
    let m = c.args.mode in
    let e = sym (found_is m b l.k _ _ c.first_entry.ensures.0 c.entry_count.ensures.0) ∙ sym c.entry_obstacle-found.ensures ∙ c.in_default.is in
    (omega arith, l.invariant.1 ∙ line-more (line_said m b) n l.k c.loop-k-test.true ∙ ap (λ (o : Option (ℕ × ℕ)). on_obstacle o (λ x y. Some (x, y)) (line_obstacle (l.k + 1) (run (line_said m b) (l.k + 1) (n - (l.k + 1))))) e)

pub returns : goal.returns
returns c =
    let a = c.args in
    sym (c.loop-k.invariant.1 ∙ line-none (line_said a.mode a.s.block.bytes.now) a.s.lines c.loop-k.k c.loop-k-test.false)
