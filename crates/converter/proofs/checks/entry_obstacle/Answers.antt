use Prim.Native.Nat.{◌+◌, ◌*◌}
use native.Mathlib.Omega.{arith}
use mathlib.Core.Path.{◌≡◌, sym, ap, ◌∙◌}
use mathlib.Core.Bool.{true, false}
use lib.ListN.{drop}
use Rattle.block.specs.EntryBytes.{entry_in}
use Rattle.block.specs.Decode.{move_place}
use Rattle.block.proofs.Cuts.{row_in}
use Rattle.converter.specs.Entries.{can_write}
use Rattle.converter.specs.Said.{said_entry, said_noted}
use Rattle.converter.specs.inner.Lines.{noted_said}
use Rattle.converter.proofs.Blocked.{entry_more, entry-none}
use Rattle.converter.proofs.checks.entry_obstacle.Goals as goal
use Rattle.converter.proofs.checks.entry_obstacle.Goals.{After-rest}

-- the row
row_is : (c : After-rest) → c.rest.result.now ≡ drop (move_place c.args.b.now (c.args.first + c.loop-i.i)) c.args.b.now
row_is c =
    let k = c.args.first + c.loop-i.i in
    c.rest.ensures ∙ ap (drop (20 * k)) c.row_of-rows.ensures ∙ row_in c.args.b.now k

pub returns-then-not-row_fits : goal.returns-then-not-row_fits
unfolding said_noted
returns-then-not-row_fits c =
    let l = c.loop-i in
    let a = c.args in
    let b = a.b.now in
    let w : can_write (noted_said a.mode b (a.first + l.i)).what ≡ false = ap (λ l. can_write (said_entry a.mode (entry_in l))) (sym (row_is (goal.at.returns-then-not-row_fits c).After-rest)) ∙ sym c.row_fits.ensures ∙ c.if-not-row_fits.true in
    sym (l.invariant.1 ∙ entry_more a.line (noted_said a.mode b) a.first a.count l.i c.loop-i-test.true ∙ rw w)

pub loop-i-preserved : goal.loop-i-preserved
unfolding said_noted
loop-i-preserved c =
    let l = c.loop-i in
    let a = c.args in
    let b = a.b.now in
    let w : can_write (noted_said a.mode b (a.first + l.i)).what ≡ true = ap (λ l. can_write (said_entry a.mode (entry_in l))) (sym (row_is (goal.at.loop-i-preserved c).After-rest)) ∙ sym c.row_fits.ensures ∙ c.if-not-row_fits.false in
    (omega arith, l.invariant.1 ∙ entry_more a.line (noted_said a.mode b) a.first a.count l.i c.loop-i-test.true ∙ rw w)

pub returns : goal.returns
returns c =
    let a = c.args in
    sym (c.loop-i.invariant.1 ∙ entry-none a.line (noted_said a.mode a.b.now) a.first a.count c.loop-i.i c.loop-i-test.false)
