-- The end of the text, an LF, a CR and ： end a key, and nothing else does.
-- Assumes nothing.
use native.Mathlib.Omega.{arith}
use Rattle.kakinoki.proofs.Keys.{ends-past, ends_lf, ends_cr, ends-colon}
use Rattle.kakinoki.proofs.infos.ends_key.Goals as goal

pub returns-else-s-at-eq13 : goal.returns-else-s-at-eq13
returns-else-s-at-eq13 c =
    let s = c.args.s.now in
    let at = c.args.at in
    grind (arith, ends-past s at, ends_lf s at, ends_cr s at, ends-colon s at)
