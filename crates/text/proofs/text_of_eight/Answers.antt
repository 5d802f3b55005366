-- In a turn one byte more is passed, since it is no LF and no CR.
-- Assumes nothing.
use Prim.Native.Nat.{◌+◌, ◌<◌}
use native.Mathlib.Omega.{arith}
use lib.ListN.{length}
use Rattle.text.specs.Text.{text_at}
use Rattle.text.proofs.Passing.{run_more, text-on}
use Rattle.text.proofs.text_of_eight.Goals as goal

pub loop-i-preserved : goal.loop-i-preserved
loop-i-preserved c =
    let s = c.args.s.now in
    let at = c.args.at in
    let inside : at + c.loop-i.i < length s = omega arith in
    run_more (text_at s) s at c.loop-i.i inside (text-on s (at + c.loop-i.i) inside c.if-s-at-lt14.false) c.loop-i.invariant
