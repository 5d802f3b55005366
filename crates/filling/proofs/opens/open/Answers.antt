-- What is refused leaves the buffer as it was; what is begun fits, and its front is put.
-- Assumes nothing.
use native.Mathlib.Omega.{arith}
use mathlib.Core.Path.{sym, ◌∙◌}
use Rattle.filling.proofs.Putting.{is_begun, left_shut, front-opened}
use Rattle.filling.proofs.opens.open.Goals as goal

pub put_front-requires : goal.put_front-requires
put_front-requires c =
    let q = is_begun c.args.z _ (sym c.in_ok-w.was ∙ c.admit.ensures) in
    (q.total, omega (arith, q.total, q.short), omega (arith, q.total, q.room))

pub returns-in_err-w-clause-out_after : goal.returns-in_err-w-clause-out_after
returns-in_err-w-clause-out_after c = let a = c.args in left_shut a.version a.z a.position a.out.now (sym c.in_err-w.was ∙ c.admit.ensures)

pub returns-clause-out_after : goal.returns-clause-out_after
returns-clause-out_after c =
    let a = c.args in
    let q = is_begun a.z _ (sym c.in_ok-w.was ∙ c.admit.ensures) in
    c.put_front.ensures ∙ front-opened a.version a.z a.position a.out.now q.short q.room
