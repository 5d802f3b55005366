use Prim.Native.Nat.{suc, ◌-◌}
use native.Mathlib.Omega.{arith}
use mathlib.Core.Path.{◌≡◌, sym, ap, ◌∙◌}
use Rattle.jkf.specs.Attaching.{near}
use Rattle.jkf.specs.Following.{start_at}
use Rattle.jkf.proofs.Nears.{near_hit, near_miss, near_none}
use Rattle.jkf.proofs.attaching.nearest_in_turn.Goals as goal

pub returns-then-start-s : goal.returns-then-start-s
returns-then-start-s c =
    let a = c.args in
    let l = c.loop-j in
    let st = start_at a.lines.now in
    let e : suc (l.j - 1) ≡ l.j = omega (arith, c.loop-j-test.true) in
    sym (l.invariant ∙ ap (near st a.s) (sym e) ∙ near_hit st a.s (l.j - 1) (omega (arith, c.start.ensures, c.if-start-s.true)))

pub loop-j-preserved : goal.loop-j-preserved
loop-j-preserved c =
    let a = c.args in
    let l = c.loop-j in
    let st = start_at a.lines.now in
    let e : suc (l.j - 1) ≡ l.j = omega (arith, c.loop-j-test.true) in
    l.invariant ∙ ap (near st a.s) (sym e) ∙ near_miss st a.s (l.j - 1) (omega (arith, c.start.ensures, c.if-start-s.false))

pub returns : goal.returns
returns c =
    let a = c.args in
    let l = c.loop-j in
    let st = start_at a.lines.now in
    let e : l.j ≡ 0 = omega (arith, c.loop-j-test.false) in
    sym (l.invariant ∙ ap (near st a.s) e ∙ near_none st a.s)
