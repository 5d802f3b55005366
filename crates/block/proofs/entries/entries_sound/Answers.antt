use Prim.Native.Nat.{ℕ, ◌+◌, ◌*◌}
use native.Mathlib.Omega.{arith}
use native.Mathlib.Nat.{zero-add}
use mathlib.Core.Path.{◌≡◌, sym, ap, ◌∙◌}
use mathlib.Core.List.{List}
use lib.ListN.{drop}
use Rattle.lists.specs.Test.{flag}
use Rattle.lent.specs.Bytes.{le16}
use Rattle.block.specs.inner.Tests.{row_test}
use Rattle.block.specs.Decode.{moves_in, move_place, comment_count}
use Rattle.block.specs.Sound.{entry_test}
use Rattle.block.proofs.Cuts.{row_in}
use Rattle.block.proofs.Fitting.{entry-row}
use Rattle.block.proofs.LineTables.{le16-drop}
use Rattle.block.proofs.TablePasses.{passed_start, passed_more, passed_not, passed_all}
use Rattle.block.proofs.entries.entries_sound.Goals as goal
use Rattle.block.proofs.entries.entries_sound.Goals.{After-row_sound}

-- the row
row_is : (c : After-row_sound) → c.rest-row.result.now ≡ drop (move_place c.args.b.now c.loop-k.k) c.args.b.now
row_is c =
    let b = c.args.b.now in
    let k = c.loop-k.k in
    c.rest-row.ensures ∙ ap (drop (20 * k)) (c.rest-rows.ensures ∙ ap (λ (p : ℕ). drop p b) c.move_place.ensures.0) ∙ row_in b k

-- what it says of the entry
row-says : (c : After-row_sound) → flag (entry_test c.args.b.now c.loop-k.k) ≡ c.row_sound.result
row-says c =
    let l = c.loop-k in
    entry-row c.args.b.now l.k l.at (l.invariant.1.sums ∙ zero-add _) (λ i. omega (arith, c.shared_slice_known-1.given i))
    ∙ ap (λ (r : List ℕ). flag (row_test l.k l.at r)) (sym (row_is c))
    ∙ sym c.row_sound.ensures

pub loop-k-init : goal.loop-k-init
loop-k-init c = (omega arith, passed_start _ _ 0 0 (omega arith))

pub overflow_mul-k : goal.overflow_mul-k
overflow_mul-k c = omega (arith, c.moves-n.ensures)

pub returns-then-not-row_sound : goal.returns-then-not-row_sound
returns-then-not-row_sound c =
    let b = c.args.b.now in
    sym (passed_not (entry_test b) (λ j. 0) (moves_in b) c.loop-k.k (omega (arith, c.moves-n.ensures)) (row-says (goal.at.returns-then-not-row_sound c).After-row_sound ∙ c.if-not-row_sound.true))

pub loop-k-preserved : goal.loop-k-preserved
loop-k-preserved c =
    let l = c.loop-k in
    let b = c.args.b.now in
    let n : c.get16-at.result ≡ comment_count b l.k = c.get16-at.ensures.0 ∙ ap (λ (r : List ℕ). le16 r 18) (row_is (goal.at.loop-k-preserved c).After-row_sound) ∙ le16-drop b (move_place b l.k) 18 in
    (omega (arith, c.get16-at.ensures.1), passed_more _ _ _ l.invariant.1 (row-says (goal.at.loop-k-preserved c).After-row_sound ∙ c.if-not-row_sound.false) (ap (λ (i : ℕ). l.at + i) n))

pub returns : goal.returns
returns c =
    let l = c.loop-k in
    sym (passed_all _ _ (moves_in c.args.b.now) l.invariant.1 (omega (arith, c.moves-n.ensures)))
