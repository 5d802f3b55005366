use Prim.Native.Nat.{◌+◌, ◌*◌}
use native.Mathlib.Omega.{arith}
use mathlib.Core.Path.{◌≡◌}
use borrow.Author.Tests.{eqb-true}
use Rattle.text.proofs.Passing.{run_none, run_at, three_width, three_run, threes_on}
use Rattle.text.proofs.utf8.are_threes.Goals as goal

pub loop-i-init : goal.loop-i-init
loop-i-init c = (omega arith, λ e. run_at (omega arith) (run_none _ _ _))

pub loop-i-preserved : goal.loop-i-preserved
loop-i-preserved c =
    let l = c.loop-i in
    let s = c.args.s.now in
    let k = c.args.at + 3 * l.i in
    let r = c.three_one-n.ensures in
    let m = r.most in
    (omega arith, threes_on l.invariant.0 l.invariant.1 m (λ e. three_run s k (three_width s k (omega arith) (r.all e))))

pub returns : goal.returns
returns c =
    λ e.
    let l = c.loop-i in
    let z : l.i ≡ 16 = omega arith in
    let n : l.n ≡ 16 = eqb-true _ _ e in
    run_at (omega arith) (l.invariant.1 (omega arith))
