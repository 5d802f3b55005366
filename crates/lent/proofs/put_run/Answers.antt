-- A run that fits is filled at the front; one that does not leaves all as it was.
-- Assumes nothing.
use native.Mathlib.Omega.{arith}
use mathlib.Core.List.{◌++◌}
use mathlib.Core.Path.{sym, ap, ◌∙◌}
use lib.ListN.{length-replicate, replicate, drop}
use lib.Seq.{length-take-le}
use Rattle.lent.proofs.Writes.{unwritten, written}
use Rattle.lent.proofs.put_run.Goals as goal

pub returns-then-out-n : goal.returns-then-out-n
returns-then-out-n c = unwritten _ _ (omega (arith, length-replicate c.args.n c.args.b))

pub returns : goal.returns
returns c =
    let a = c.args in
    let n = length-take-le a.n a.out.now c.if-out-n.false in
    let run = c.fill.ensures.after (λ _ e. e) ∙ ap (λ k. replicate k a.b) n in
    written (record { count = sym (length-replicate a.n a.b); bytes = ap (λ t. t ++ drop a.n a.out.now) run; fits = omega arith })
