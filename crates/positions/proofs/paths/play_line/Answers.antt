use Prim.Native.Nat.{ℕ, ◌+◌, ◌-◌}
use native.Mathlib.Omega.{arith}
use mathlib.Core.Path.{◌≡◌, sym, ap, ◌∙◌}
use Rattle.block.specs.Decode.{run}
use Rattle.positions.specs.declared.Course.{Course}
use Rattle.positions.specs.Paths.{entry_place, play_all}
use Rattle.positions.proofs.Walks.{play-next, play-end}
use Rattle.positions.proofs.paths.play_line.Goals as goal

pub loop-i-init : goal.loop-i-init
loop-i-init c = let a = c.args in
    let z : a.n ≡ a.n - 0 = omega arith in
    ap (λ (j : ℕ). play_all a.b.now (run (entry_place a.k) 0 j) a.before) z

pub play_one-w-requires : goal.play_one-w-requires
play_one-w-requires c = omega (arith, c.requires, c.loop-i-test.true)

pub loop-i-preserved : goal.loop-i-preserved
loop-i-preserved c =
    let a = c.args in
    c.loop-i.invariant ∙ play-next a.b.now a.k a.n c.loop-i.i c.loop-i.w c.loop-i-test.true
    ∙ ap (λ (w : Course). play_all a.b.now (run (entry_place a.k) (c.loop-i.i + 1) (a.n - (c.loop-i.i + 1))) w) (sym c.play_one-w.ensures)

pub returns : goal.returns
returns c =
    let a = c.args in
    sym (c.loop-i.invariant ∙ play-end a.b.now a.k a.n c.loop-i.i c.loop-i.w c.loop-i-test.false)
