use Prim.Native.Nat.{zero-le}
use native.Mathlib.Omega.{arith}
use mathlib.Core.Path.{◌≡◌}
use borrow.Author.Rules.{rules}
use Rattle.lent.proofs.Writes.{wrote_length, rest_length}
use Rattle.shown.proofs.Texts.{lines_none, lines_step}
use Rattle.shown.proofs.put_lines.Goals as goal

pub loop-k-init : goal.loop-k-init
loop-k-init c = (zero-le, lines_none c.args.b.now _)

pub slice_bounds-put_line-count : goal.slice_bounds-put_line-count
slice_bounds-put_line-count c = omega (arith, wrote_length c.loop-k.invariant.1)

pub slice_bounds-put_line-start : goal.slice_bounds-put_line-start
slice_bounds-put_line-start c =
    let h = wrote_length c.loop-k.invariant.1 in
    search rules

pub put_line-n-requires : goal.put_line-n-requires
put_line-n-requires c =
    let l = c.loop-k in
    omega (arith, wrote_length l.invariant.1, rest_length l.out l.n)

pub overflow_add-n : goal.overflow_add-n
overflow_add-n c =
    let l = c.loop-k in
    omega (arith, wrote_length l.invariant.1, rest_length l.out l.n, c.put_line-n.ensures.0.fits)

pub loop-k-preserved : goal.loop-k-preserved
loop-k-preserved c =
    let l = c.loop-k in
    let p = c.put_line-n.ensures in
    (omega (arith, p.1), lines_step c.args.b.now l.k l.invariant.1 p.0)

pub returns : goal.returns
returns c =
    let e : c.loop-k.k ≡ c.args.count = omega arith in
    rw e at c.loop-k.invariant.1
