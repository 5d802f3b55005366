use Rattle.std.specs.Prelude.{Some}
use Prim.Native.Nat.{ℕ, ◌+◌}
use native.Mathlib.Omega.{arith}
use mathlib.Core.Path.{◌≡◌, sym, ap, ◌∙◌}
use mathlib.Core.List.{List, ◌∷◌}
use lib.ListN.{length, drop, take, length-take, drop_of_length-le}
use Rattle.text.specs.Text.{stands_at, cursor}
use Rattle.text.proofs.Laws.{stands_fits}
use Rattle.spell.specs.Tables.{Spelling, spelling}
use Rattle.spell.specs.Spell.{first_of}
use Rattle.spell.specs.inner.Rows.{spellings}
use Rattle.spell.proofs.Search.{Fits, fits_at, left_at, first_here, first_past}
use Rattle.spell.proofs.find.Goals as goal
use Rattle.spell.proofs.find.Goals.{After-row-item, After-stands}

fit : (g : _) (c : After-row-item g) → Fits c.row-item.result
fit g c = fits_at c.args.table.now c.loop-row.row-index c.row-item.result c.requires c.loop-row-test.true c.row-item.is

-- whether the row's spelling stands there
stood : (g : _) (c : After-stands g) → c.stands.result ≡ stands_at (take c.row-item.result.length c.row-item.result.bytes) c.args.s.now c.args.c.at
stood g c = c.stands.ensures

-- what is looked for, in the row and what comes after it
left : (g : _) (c : After-row-item g) →
    first_of (spellings c.args.table.now) c.args.s.now c.args.c.at
    ≡ first_of (spelling c.row-item.result.number (take c.row-item.result.length c.row-item.result.bytes) ∷ spellings (drop (c.loop-row.row-index + 1) c.args.table.now)) c.args.s.now c.args.c.at
left g c =
    c.loop-row.invariant
    ∙ ap (λ (es : List Spelling). first_of es c.args.s.now c.args.c.at) (left_at c.args.table.now c.loop-row.row-index c.row-item.result c.loop-row-test.true c.row-item.is)

long : (g : _) (c : After-row-item g) → length (take c.row-item.result.length c.row-item.result.bytes) ≡ c.row-item.result.length
long g c = let f = fit g c in omega (arith, length-take c.row-item.result.length c.row-item.result.bytes)

pub shared_whole_as_front-stands : goal.shared_whole_as_front-stands
shared_whole_as_front-stands g c = ((fit g c).fits, omega arith)

pub overflow_add-result : goal.overflow_add-result
overflow_add-result g c =
    let d = (goal.at.overflow_add-result g c).After-stands in
    omega (arith, stands_fits (take c.row-item.result.length c.row-item.result.bytes) c.args.s.now c.args.c.at (sym (stood g d) ∙ c.if-stands.true), long g (goal.at.overflow_add-result g c).After-row-item)

pub loop-row-preserved : goal.loop-row-preserved
loop-row-preserved g c =
    left g (goal.at.loop-row-preserved g c).After-row-item
    ∙ first_past _ _ _ _ (sym (stood g (goal.at.loop-row-preserved g c).After-stands) ∙ c.if-stands.false)

pub returns-then-stands : goal.returns-then-stands
returns-then-stands g c =
    let d = (goal.at.returns-then-stands g c).After-row-item in
    ap (λ (n : ℕ). Some (c.row-item.result.number, cursor (c.args.c.at + n))) (sym (long g d))
    ∙ sym (left g d ∙ first_here _ _ _ _ (sym (stood g (goal.at.returns-then-stands g c).After-stands) ∙ c.if-stands.true))

pub returns : goal.returns
unfolding first_of
returns g c = sym (c.loop-row.invariant ∙ rw (drop_of_length-le c.args.table.now c.loop-row-test.false))
