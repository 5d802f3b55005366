use native.Mathlib.Omega.{arith}
use native.Mathlib.Nat.{zero-add}
use mathlib.Core.Path.{sym, ◌∙◌}
use Rattle.lists.specs.Test.{each}
use Rattle.lists.proofs.Tests.{says}
use Rattle.block.specs.Decode.{lines_in}
use Rattle.block.specs.Sound.{line_test}
use Rattle.block.proofs.Hanging.{lines_hung}
use Rattle.block.proofs.TablePasses.{passed_start, passed_more, passed_not, passed_all}
use Rattle.block.proofs.places.lines_sound.Goals as goal

pub loop-k-init : goal.loop-k-init
loop-k-init c = (omega arith, passed_start _ _ 0 0 (omega arith))

pub line_sound-requires : goal.line_sound-requires
line_sound-requires c =
    let l = c.loop-k in
    let b = c.args.b.now in
    (omega (arith, c.lines-n.ensures), l.invariant.1.sums ∙ zero-add _, lines_hung b l.k (says (each l.k (line_test b)) l.invariant.1.sound))

pub returns-then-not-line_sound : goal.returns-then-not-line_sound
returns-then-not-line_sound c = sym (passed_not (line_test c.args.b.now) (λ j. 0) (lines_in c.args.b.now) c.loop-k.k (omega (arith, c.lines-n.ensures)) (sym c.line_sound.ensures ∙ c.if-not-line_sound.true))

pub entry_count-at-requires : goal.entry_count-at-requires
entry_count-at-requires c = omega (arith, c.lines-n.ensures)

pub loop-k-preserved : goal.loop-k-preserved
loop-k-preserved c =
    let l = c.loop-k in
    (omega arith, passed_more _ _ _ l.invariant.1 (sym c.line_sound.ensures ∙ c.if-not-line_sound.false) (omega arith))

pub returns : goal.returns
returns c =
    let l = c.loop-k in
    sym (passed_all _ _ (lines_in c.args.b.now) l.invariant.1 (omega (arith, c.lines-n.ensures)))
