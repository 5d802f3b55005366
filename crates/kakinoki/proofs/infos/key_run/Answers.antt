use native.Mathlib.Omega.{arith}
use mathlib.Core.Path.{ap}
use lib.ListN.{length}
use Rattle.kakinoki.proofs.Keys.{ends_not, key_more}
use Rattle.kakinoki.proofs.infos.key_run.Goals as goal

pub loop-at-preserved : goal.loop-at-preserved
loop-at-preserved c =
    let s = c.args.s.now in
    omega (arith, c.loop-at.invariant, ap length (key_more s c.loop-at.at (ends_not s c.loop-at.at (omega arith) (omega arith) (omega arith))))
