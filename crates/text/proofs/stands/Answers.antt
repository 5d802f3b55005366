use Prim.Native.Nat.{◌+◌}
use native.Mathlib.Omega.{arith}
use mathlib.Core.Path.{sym, ap, ◌∙◌}
use lib.ListN.{drop, length-drop}
use Rattle.text.specs.Text.{stands_at}
use Rattle.text.proofs.Laws.{stands_done, stands_empty, stands_longer, stands_off, stands_on}
use Rattle.text.proofs.stands.Goals as goal

pub returns-then-s-at : goal.returns-then-s-at
returns-then-s-at c = let a = c.args in c.is_empty.ensures ∙ sym (stands_empty a.t.now a.s.now a.at (omega arith))

pub returns-then-s-at-2 : goal.returns-then-s-at-2
returns-then-s-at-2 c = let a = c.args in sym (stands_longer a.t.now a.s.now a.at (omega (arith, length-drop a.at a.s.now)))

pub returns-then-s-at-3 : goal.returns-then-s-at-3
returns-then-s-at-3 c =
    let a = c.args in let l = c.loop-i in
    sym (l.invariant ∙ stands_off a.t.now a.s.now l.i (a.at + l.i) (omega arith) (omega arith) c.if-s-at-3.true)

pub loop-i-preserved : goal.loop-i-preserved
loop-i-preserved c =
    let a = c.args in let l = c.loop-i in
    l.invariant ∙ stands_on a.t.now a.s.now l.i (a.at + l.i) (omega arith) (omega arith) c.if-s-at-3.false ∙ ap (stands_at (drop (l.i + 1) a.t.now) a.s.now) (omega arith)

pub returns : goal.returns
returns c =
    let a = c.args in let l = c.loop-i in
    sym (l.invariant ∙ stands_done a.t.now a.s.now l.i (a.at + l.i) (omega arith))
