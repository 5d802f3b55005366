-- The sum is that of `move_width`, and its parts are at most 4, 4, 2 and 4.
-- Assumes nothing.
use native.Mathlib.Omega.{arith}
use Rattle.converter.specs.Entries.{move_width}
use Rattle.converter.proofs.Worded.{kind-narrow, promote_narrow, origin-narrow}
use Rattle.converter.proofs.kif.move_width.Goals as goal

pub overflow_add-result : goal.overflow_add-result
overflow_add-result c =
    let k = kind-narrow c.args.m.piece in
    omega arith

pub overflow_add-result-2 : goal.overflow_add-result-2
overflow_add-result-2 c =
    let k = kind-narrow c.args.m.piece in
    let p = promote_narrow c.args.m.promote in
    omega arith

pub overflow_add-result-3 : goal.overflow_add-result-3
overflow_add-result-3 c =
    let k = kind-narrow c.args.m.piece in
    let p = promote_narrow c.args.m.promote in
    let f = origin-narrow c.args.m.from in
    omega arith

pub returns : goal.returns
unfolding move_width
returns c =
    let k = kind-narrow c.args.m.piece in
    let p = promote_narrow c.args.m.promote in
    let f = origin-narrow c.args.m.from in
    (omega arith, omega arith)
