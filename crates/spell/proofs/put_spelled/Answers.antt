use Prim.Native.Nat.{ℕ, ◌+◌}
use native.Mathlib.Omega.{arith}
use mathlib.Core.Path.{◌≡◌, sym, ap, ◌∙◌}
use mathlib.Core.List.{List, ◌∷◌}
use lib.ListN.{drop, take, drop_of_length-le}
use Rattle.lent.proofs.Writes.{as_text, nothing, fitting_nothing}
use Rattle.lent.specs.Bytes.{fitting}
use Rattle.spell.specs.Tables.{Spelling, spelling}
use Rattle.spell.specs.Spell.{spelled}
use Rattle.spell.specs.inner.Rows.{spellings}
use Rattle.spell.proofs.Search.{Fits, fits_at, left_at, spelled_here, spelled_past}
use Rattle.spell.proofs.put_spelled.Goals as goal
use Rattle.spell.proofs.put_spelled.Goals.{After-row-item}

fit : (g : _) (c : After-row-item g) → Fits c.row-item.result
fit g c = fits_at c.args.table.now c.loop-row.row-index c.row-item.result c.requires c.loop-row-test.true c.row-item.is

-- what is looked for, in the row and what comes after it
left : (g : _) (c : After-row-item g) →
    spelled (spellings c.args.table.now) c.args.n
    ≡ spelled (spelling c.row-item.result.number (take c.row-item.result.length c.row-item.result.bytes) ∷ spellings (drop (c.loop-row.row-index + 1) c.args.table.now)) c.args.n
left g c =
    c.loop-row.invariant.1
    ∙ ap (λ (es : List Spelling). spelled es c.args.n) (left_at c.args.table.now c.loop-row.row-index c.row-item.result c.loop-row-test.true c.row-item.is)

pub shared_whole_as_front-put_bytes : goal.shared_whole_as_front-put_bytes
shared_whole_as_front-put_bytes g c = ((fit g (goal.at.shared_whole_as_front-put_bytes g c).After-row-item).fits, omega arith)

pub returns-then-row-n : goal.returns-then-row-n
returns-then-row-n g c =
    let e : take c.row-item.result.length c.row-item.result.bytes ≡ spelled (spellings c.args.table.now) c.args.n =
    sym (left g (goal.at.returns-then-row-n g c).After-row-item ∙ spelled_here _ _ _ c.if-row-n.true) in
    rw c.loop-row.invariant.0 at (as_text (ap (λ (t : List ℕ). fitting t c.loop-row.out) e) c.put_bytes.ensures)

pub loop-row-preserved : goal.loop-row-preserved
loop-row-preserved g c =
    (c.loop-row.invariant.0, left g (goal.at.loop-row-preserved g c).After-row-item ∙ spelled_past _ _ _ c.if-row-n.false)

pub returns : goal.returns
unfolding spelled
returns g c =
    let l = c.loop-row in
    let e : drop l.row-index c.args.table.now ≡ _ = drop_of_length-le c.args.table.now c.loop-row-test.false in
    as_text (sym (fitting_nothing _ (l.invariant.1 ∙ rw e))) (rw l.invariant.0 (nothing _))
