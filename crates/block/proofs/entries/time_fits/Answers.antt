-- Without a time the marks are below 4 and six bytes zero; with one they are below 32 and each hour fits its mark (`Fitting`).
-- Assumes nothing.
use Rattle.block.proofs.Fitting.{zeros, time_without, time_timed}
use lib.Seq.{length-take-le}
use lib.ListN.{drop, take, length-drop}
use borrow.Author.Rules.{rules}
use mathlib.Core.Path.{sym, ◌∙◌}
use native.Mathlib.Omega.{arith}
use Rattle.block.proofs.entries.time_fits.Goals as goal

pub returns-then-marks-lt4 : goal.returns-then-marks-lt4
returns-then-marks-lt4 c =
    let l = c.args.row.now in
    let n = length-take-le 6 (drop 9 l) (omega (arith, length-drop 9 l)) in
    c.all_zero.ensures ∙ zeros (take 6 (drop 9 l)) 6 n ∙ sym (time_without l c.requires c.if-marks-ne1.true ∙ search rules)

pub returns-else-marks-lt4 : goal.returns-else-marks-lt4
returns-else-marks-lt4 c = sym (time_without c.args.row.now c.requires c.if-marks-ne1.true ∙ search rules)

pub returns-then-hour_fits : goal.returns-then-hour_fits
returns-then-hour_fits c = sym (time_timed c.args.row.now c.requires c.if-marks-ne1.false ∙ search rules)

pub returns-else-hour_fits : goal.returns-else-hour_fits
returns-else-hour_fits c = sym (time_timed c.args.row.now c.requires c.if-marks-ne1.false ∙ search rules)
