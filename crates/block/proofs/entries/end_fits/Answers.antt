-- Bytes that are all zero are the zeros of the definition (`Fitting`).
-- Assumes nothing.
use Rattle.block.proofs.Fitting.{zeros}
use lib.Seq.{length-take-le}
use lib.ListN.{drop, take, length-drop}
use borrow.Author.Rules.{rules}
use mathlib.Core.Path.{◌∙◌}
use native.Mathlib.Omega.{arith}
use Rattle.block.proofs.entries.end_fits.Goals as goal

pub returns-then-row-eq0 : goal.returns-then-row-eq0
returns-then-row-eq0 c =
    let l = c.args.row.now in
    let n = length-take-le 6 (drop 2 l) (omega (arith, length-drop 2 l)) in
    c.all_zero.ensures ∙ zeros (take 6 (drop 2 l)) 6 n ∙ search rules
