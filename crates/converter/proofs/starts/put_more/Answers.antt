-- The two cases of `more_text`.
-- Assumes nothing.
use native.Mathlib.Omega.{arith}
use mathlib.Core.Path.{sym, ap}
use lib.ListN.{length}
use Rattle.lent.proofs.Writes.{as_text, nothing, wrote_all}
use Rattle.converter.proofs.Cased.{more_many, more-one}
use Rattle.converter.proofs.starts.put_more.Goals as goal

pub returns-then-count-gt1 : goal.returns-then-count-gt1
returns-then-count-gt1 c =
    let a = c.args in
    let e = more_many a.count (omega arith) in
    as_text (sym e) (wrote_all (omega (arith, ap length e)) c.put_count.ensures)

pub returns : goal.returns
returns c = as_text (sym (more-one c.args.count (omega arith))) (nothing _)
