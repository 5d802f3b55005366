-- In a turn one byte more is passed, since it is a character.
-- Assumes nothing.
use Prim.Native.Nat.{◌+◌, ◌<◌}
use native.Mathlib.Omega.{arith}
use lib.ListN.{length}
use Rattle.text.specs.Text.{past_all}
use Rattle.text.specs.Utf8.{char_width}
use Rattle.text.proofs.Passing.{run_more, ascii_on}
use Rattle.text.proofs.utf8.ascii_of_eight.Goals as goal

pub loop-i-preserved : goal.loop-i-preserved
loop-i-preserved c =
    let s = c.args.s.now in
    let at = c.args.at in
    let inside : at + c.loop-i.i < length s = omega arith in
    run_more (past_all char_width s) s at c.loop-i.i inside (ascii_on s (at + c.loop-i.i) inside c.if-s-at-ge128.false) c.loop-i.invariant
