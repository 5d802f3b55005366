use Rattle.block.specs.Decode.{headers_in}
use Rattle.block.proofs.Spans.{header_stands}
use Rattle.block.proofs.TablePasses.{passed_start, passed_more, passed_not, passed_all}
use mathlib.Core.Path.{sym, ◌∙◌}
use native.Mathlib.Omega.{arith}
use native.Mathlib.Nat.{zero-add}
use Rattle.block.proofs.tables.headers_stand.Goals as goal

pub loop-k-init : goal.loop-k-init
loop-k-init c =
    (omega arith, passed_start _ _ 0 0 (omega arith))

pub header_stands-requires : goal.header_stands-requires
header_stands-requires c =
    (omega (arith, c.headers-n.ensures), omega (arith, c.headers-n.ensures), c.loop-k.invariant.1.sums ∙ zero-add _, omega arith, omega arith)

pub returns-then-not-header_stands : goal.returns-then-not-header_stands
returns-then-not-header_stands c =
    let a = c.args in
    sym (passed_not (header_stands a.b.now a.t) (λ j. 0) (headers_in a.b.now) c.loop-k.k (omega (arith, c.headers-n.ensures)) (sym c.header_stands.ensures ∙ c.if-not-header_stands.true))

pub overflow_mul-k : goal.overflow_mul-k
overflow_mul-k c =
    omega (arith, c.headers-n.ensures)

pub overflow_add-k : goal.overflow_add-k
overflow_add-k c =
    omega (arith, c.headers-n.ensures)

pub overflow_add-k-in-loop-k : goal.overflow_add-k-in-loop-k
overflow_add-k-in-loop-k c =
    omega (arith, c.headers-n.ensures)

pub pair-requires : goal.pair-requires
pair-requires c =
    omega (arith, c.headers-n.ensures)

pub overflow_mul-k-in-loop-k : goal.overflow_mul-k-in-loop-k
overflow_mul-k-in-loop-k c =
    omega (arith, c.headers-n.ensures)

pub overflow_add-k-in-loop-k-2 : goal.overflow_add-k-in-loop-k-2
overflow_add-k-in-loop-k-2 c =
    omega (arith, c.headers-n.ensures)

pub overflow_add-k-in-loop-k-3 : goal.overflow_add-k-in-loop-k-3
overflow_add-k-in-loop-k-3 c =
    omega (arith, c.headers-n.ensures)

pub pair-requires-in-loop-k : goal.pair-requires-in-loop-k
pair-requires-in-loop-k c =
    omega (arith, c.headers-n.ensures)

pub loop-k-preserved : goal.loop-k-preserved
loop-k-preserved c =
    let l = c.loop-k in
    (omega arith, passed_more _ _ _ l.invariant.1 (sym c.header_stands.ensures ∙ c.if-not-header_stands.false) (omega arith))

pub returns : goal.returns
returns c =
    let l = c.loop-k in
    sym (passed_all _ _ (headers_in c.args.b.now) l.invariant.1 (omega (arith, c.headers-n.ensures)))
